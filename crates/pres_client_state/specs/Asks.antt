-- Transactions that wait for their callers' answers.
use Rattle.std.specs.Prelude.{◌==◌, ◌+◌, ◌||◌, ℕ, Bool, List, filter, not, length, nat_lt, Option}
use Rattle.std.specs.Ordering.{nat_cmp}
use Rattle.std.specs.FinMap.Entries.{find, put}
use Rattle.pres_tree.specs.Paths.{Path, max_depth}
use Rattle.pres_tree.specs.Rows.{Rows, depth_of}
use Rattle.pres_write.specs.declared.draft.DraftLeaf.{DraftLeaf}
use Rattle.pres_client_state.specs.declared.ask.Ask.{Ask}

-- the transactions that wait for their callers, by request
abbrev pub Asks : Type 0
Asks = List (ℕ × Ask)

abbrev pub ask_of : ℕ → Asks → Option Ask
ask_of k asks = find nat_cmp k asks

abbrev pub with_ask : ℕ → Ask → Asks → Asks
with_ask k a asks = put nat_cmp k a asks

abbrev pub without_ask : ℕ → Asks → Asks
without_ask k asks = filter (λ e. not (k == e.0)) asks

-- data is nested too deep at the path
abbrev pub is_deep : {A : Type 0} → Path → Rows A → Bool
is_deep p v = nat_lt max_depth (length p + depth_of v)

abbrev pub is_too_deep : Ask → Rows DraftLeaf → Bool
is_too_deep a new = is_deep a.path a.value || is_deep a.path new
