-- Answers that are kept apart from the rest of a base: in tables, each with the answers that were made since the one before.
use Rattle.std.specs.Prelude.{◌≡◌, ℕ, nat_lt, List, [], ◌∷◌, ◌++◌, filter, map, length}
use Rattle.std.specs.List.{flat_map}
use Rattle.pres_ids.specs.Ids.{ClientId}
use Rattle.pres_retry.specs.declared.table.Row.{Row}
use Rattle.pres_retry.specs.Tables.{Table, rows_of}
use Rattle.pres_retry.specs.Above.{rows_above, rows_up_to}
use Rattle.pres_base.specs.declared.parts.ClientPart.{ClientPart}
use Rattle.pres_base.specs.declared.parts.BaseParts.{BaseParts}
use Rattle.pres_base.specs.Bases.{IsBase}

-- ---- the answers of a base, and the rest of it

-- the answers of those clients that have any
abbrev pub answers_for : List ClientPart → Table
answers_for clients = filter (λ e. nat_lt 0 (length e.1)) (map (λ c. (c.id, c.rows)) clients)

-- the parts with these answers for each client
abbrev pub with_rows : (ClientPart → List Row) → BaseParts → BaseParts
with_rows rows p = record p { clients = map (λ c. record { id = c.id; last = c.last; rows = rows c }) p.clients }

-- the parts without answers
abbrev pub without_answers : BaseParts → BaseParts
without_answers p = with_rows (λ c. []) p

-- the parts with the answers alone that were made after the number
abbrev pub parts_above : ℕ → BaseParts → BaseParts
parts_above number p = with_rows (λ c. rows_above number c.rows) p

-- the parts with the answers alone that were made up to the number
abbrev pub parts_up_to : ℕ → BaseParts → BaseParts
parts_up_to number p = with_rows (λ c. rows_up_to number c.rows) p

-- the parts with the answers of the tables too: each client's of one table after the other, before its own
abbrev pub with_answers : List Table → BaseParts → BaseParts
with_answers tables p = with_rows (λ c. flat_map (rows_of c.id) tables ++ c.rows) p

-- ---- the answers of a base in tables

-- the tables have the answers of the parts, and no others
abbrev pub HaveAnswers : List Table → BaseParts → Type 0
HaveAnswers tables p = (client : ClientId) → flat_map (rows_of client) tables ≡ rows_of client (answers_for p.clients)

-- of the later base's answers those that were made up to the earlier one's number are the earlier one's
abbrev pub KeepsAnswers : BaseParts → BaseParts → Type 0
KeepsAnswers earlier later = (client : ClientId) → rows_up_to earlier.number (rows_of client (answers_for later.clients)) ≡ rows_of client (answers_for earlier.clients)

-- each is a base, and keeps the answers of the one before
abbrev pub AllKeepAnswers : BaseParts → List BaseParts → Type 0
AllKeepAnswers earlier [] = Unit {0}
AllKeepAnswers earlier (p ∷ later) = IsBase p × KeepsAnswers earlier p × AllKeepAnswers p later

-- the last of the bases
abbrev pub last_base : BaseParts → List BaseParts → BaseParts
last_base p [] = p
last_base p (next ∷ later) = last_base next later

-- the tables that are written for one base after the other: what was answered since the number, and then since each base
abbrev pub tables_since : ℕ → List BaseParts → List Table
tables_since number [] = []
tables_since number (p ∷ later) = answers_for (parts_above number p).clients ∷ tables_since p.number later

-- ---- what holds of them

-- What is left of a base where answers are left out is a base.
pub record RestIsBase (number : ℕ) (p : BaseParts) : Type 0 where
  pub above : IsBase (parts_above number p)
  pub none : IsBase (without_answers p)
  -- the rest is the same, whichever answers were left out before
  pub same : without_answers (parts_above number p) ≡ without_answers p

-- No tables add no answers.
abbrev pub NoTablesAddNone : BaseParts → Type 0
NoTablesAddNone p = with_answers [] p ≡ p

-- Each answer of a base was made after number 0.
abbrev pub AllAboveZero : BaseParts → Type 0
AllAboveZero p = IsBase p → parts_above 0 p ≡ p

-- A base's answers up to a number, put before those after it, make the base.
abbrev pub PartsJoin : ℕ → BaseParts → Type 0
PartsJoin number p = IsBase p → with_answers (answers_for (parts_up_to number p).clients ∷ []) (parts_above number p) ≡ p

-- Tables that have the answers of a base make the base, with the rest of it.
abbrev pub TablesMakeBase : List Table → BaseParts → Type 0
TablesMakeBase tables p = IsBase p → HaveAnswers tables p → with_answers tables (without_answers p) ≡ p

-- To the tables of an earlier base those are added that have what a later one answered since: then all have the later one's.
abbrev pub TablesGrow : List Table → List Table → BaseParts → BaseParts → Type 0
TablesGrow tables more earlier later =
    IsBase later → KeepsAnswers earlier later → HaveAnswers tables earlier → HaveAnswers more (parts_above earlier.number later) → HaveAnswers (tables ++ more) later

-- The tables that are written for one base after the other make the last one, with the rest of it.
abbrev pub WrittenTablesMakeBase : BaseParts → List BaseParts → Type 0
WrittenTablesMakeBase first later =
    IsBase first → AllKeepAnswers first later → with_answers (tables_since 0 (first ∷ later)) (without_answers (last_base first later)) ≡ last_base first later
