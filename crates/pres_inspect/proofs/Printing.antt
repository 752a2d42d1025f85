-- What is printed, one piece after another, and the lines of entries.
use Rattle.std.proofs.Common.{get_or, Option, Some, None, append-nil, ◌≡◌, ◌+◌, ◌-◌, ◌<◌, ◌≤◌, ℕ, List, [], ◌∷◌, ◌++◌, length, take, codes, Result, Ok, Err, OnOk, refl, sym, ap, ◌∙◌, arith, append_assoc, length-append}
use Rattle.std.specs.Prelude.{decimal, is_ok, slice_range, if◌then◌else◌}
use Rattle.std.proofs.lemmas.Bool.{le-leb, lt-leb}
use Rattle.std.proofs.Math.Seq.{take-append_seam}
use Rattle.std.proofs.lemmas.List.{length-map, take_more}
use Rattle.std.proofs.lemmas.List.Concat.{flat_map-append}
use Rattle.std.specs.Io.KnownBytes.{Appends}
use Rattle.json.specs.Print.{escape_byte}
use Rattle.serde_json.specs.Written.{compact_text}
use Rattle.sqlite_wal.specs.Recovery.{Image}
use Rattle.pres_base.specs.declared.parts.BaseParts.{BaseParts}
use Rattle.pres_log.specs.declared.entry.Batch.{Batch}
use Rattle.pres_log.specs.declared.entry.Entry.{Entry}
use Rattle.pres_log.specs.Logs.{Log}
use Rattle.pres_server.specs.BaseSums.{sum_for}
use Rattle.pres_server.specs.Sums.{Sum}
use Rattle.pres_server.specs.Histories.{History}
use Rattle.pres_batch_json.specs.Entries.{entries_json, entry_json}
use Rattle.pres_inspect.specs.declared.checkpoint.Checkpoint.{Checkpoint}
use Rattle.pres_inspect.specs.Reports.{PrintsHistory, PrintsSomeHistory, Text, batch_text, checkpoint_line, checkpoint_text, entry_text, lines_text, log_text}

-- the JSON of a list of one entry
one_entry : (e : Entry) → compact_text (entries_json (e ∷ [])) ≡ 91 ∷ (compact_text (entry_json e) ++ 93 ∷ [])
one_entry e = refl

-- what stands between two bytes
between : (a b : ℕ) (xs : List ℕ) → slice_range (a ∷ (xs ++ b ∷ [])) 1 (length (a ∷ (xs ++ b ∷ [])) - 1) ≡ xs
between a b xs =
    let long : length (a ∷ (xs ++ b ∷ [])) - 1 - 1 ≡ length xs = (let all = length-append xs (b ∷ []) in omega (arith, all)) in
    ap (λ n. take n (xs ++ b ∷ [])) long ∙ take-append_seam xs (b ∷ [])

-- the pieces of an entry's line
line_of_pieces : (number moment : ℕ) (e : Entry)
    → codes "{\"entry\":" ++ (compact_text (entry_json e) ++ (codes ",\"moment\":" ++ (decimal moment ++ (codes ",\"number\":" ++ (decimal number ++ codes "}\n"))))) ≡ entry_text number moment e
unfolding escape_byte
line_of_pieces number moment e = simp append_assoc refl

-- those of a checkpoint's line
pub line_of_checkpoint : (c : Checkpoint)
    → codes "{\"checkpoint\":{\"batches\":" ++ (decimal c.batches ++ (codes "},\"moment\":" ++ (decimal c.moment ++ (codes ",\"number\":" ++ (decimal c.number ++ codes "}\n"))))) ≡ checkpoint_text c
unfolding escape_byte
line_of_checkpoint c = simp append_assoc refl

-- a checkpoint with the first number or a later one has a line, and one before it has none
pub checkpoint_shown : (from : ℕ) (c : Checkpoint) → from ≤ c.number → checkpoint_text c ≡ checkpoint_line from (Some c)
checkpoint_shown from c low = ap (λ b. if b then checkpoint_text c else []) (sym (le-leb from c.number low))

pub checkpoint_hidden : (from : ℕ) (c : Checkpoint) → c.number < from → [] ≡ checkpoint_line from (Some c)
checkpoint_hidden from c high = ap (λ b. if b then checkpoint_text c else []) (sym (lt-leb from c.number high))

-- what follows from what a list grew by
pub grown : {T E B : Type 0} (r : Result T E) (new more old : List ℕ) → (new ≡ more → B) → new ≡ (if is_ok r then more else old) → OnOk r B
grown (Ok t) new more old f is = f is
grown (Err e) new more old f is = tt

-- an entry's line after the lines before it
pub whole_line : (before list tail one two three : List ℕ) (number moment : ℕ) (e : Entry)
    → list ≡ compact_text (entries_json (e ∷ []))
    → tail ≡ codes ",\"moment\":" ++ (decimal moment ++ (codes ",\"number\":" ++ (decimal number ++ codes "}\n")))
    → one ≡ before ++ codes "{\"entry\":" → two ≡ one ++ slice_range list 1 (length list - 1) → three ≡ two ++ tail
    → three ≡ before ++ entry_text number moment e
whole_line before list tail one two three number moment e is_list is_tail is_one is_two is_three =
    let inner : slice_range list 1 (length list - 1) ≡ compact_text (entry_json e) =
    ap (λ l. slice_range l 1 (length l - 1)) (is_list ∙ one_entry e) ∙ between 91 93 (compact_text (entry_json e)) in
    rw (is_three, is_two, is_one, inner, is_tail) (
    append_assoc (before ++ codes "{\"entry\":") (compact_text (entry_json e)) _
    ∙ append_assoc before (codes "{\"entry\":") _
    ∙ ap (λ t. before ++ t) (line_of_pieces number moment e)
    )

-- the lines with that of one entry more
pub line_more : (from number moment : ℕ) (e : Entry) (es : List Entry) (lines new : List ℕ) → from ≤ number → new ≡ lines ++ entry_text number moment e
    → new ++ lines_text from (number + 1) moment es ≡ lines ++ lines_text from number moment (e ∷ es)
line_more from number moment e es lines new low is_new =
    ap (λ t. t ++ lines_text from (number + 1) moment es) is_new ∙ append_assoc lines _ _
    ∙ ap (λ b. lines ++ ((if b then entry_text number moment e else []) ++ lines_text from (number + 1) moment es)) (sym (le-leb from number low))

-- an entry before the first number has no line
pub no_line : (from number moment : ℕ) (e : Entry) (es : List Entry) (lines : List ℕ) → number < from
    → lines ++ lines_text from (number + 1) moment es ≡ lines ++ lines_text from number moment (e ∷ es)
no_line from number moment e es lines high = ap (λ b. lines ++ ((if b then entry_text number moment e else []) ++ lines_text from (number + 1) moment es)) (sym (lt-leb from number high))

-- what is appended, one piece after another
pub appends_more : (x y z : Option (List ℕ)) (a b : List ℕ) → Appends x y a → Appends y z b → Appends x z (a ++ b)
appends_more None y z a b h k = tt
appends_more (Some xs) None z a b h k = absurd h
appends_more (Some xs) (Some ys) None a b h k = absurd k
appends_more (Some xs) (Some ys) (Some zs) a b h k = k ∙ rw h (append_assoc xs a b)

pub nothing_more : (x : Option (List ℕ)) → Appends x x []
nothing_more None = tt
nothing_more (Some xs) = sym (append-nil xs)

-- the text of the batches with one more
pub log_more : (from : ℕ) (log : Log) (i : ℕ) (b : Batch) → i < length log → b ≡ get_or log i b
    → log_text from (take (i + 1) log) ≡ log_text from (take i log) ++ batch_text from b
log_more from log i b low is =
    ap (log_text from) (take_more log i b low ∙ ap (λ x. take i log ++ x ∷ []) (sym is))
    ∙ flat_map-append (batch_text from) (take i log) (b ∷ [])
    ∙ ap (λ t. log_text from (take i log) ++ t) (append-nil (batch_text from b))

-- what is printed of a file is that of some history
pub some_history : (image : Image) (text : History → Sum → Text) (x y : Option Text) → PrintsHistory image text x y → PrintsSomeHistory text x y
some_history image text x y it = record { history = it.history; sum = it.sum; leads = it.leads; printed = it.printed }

-- a base has as many open sessions as its sum
pub open_sessions : (p : BaseParts) (sum : Sum) → sum_for p ≡ sum → length p.sessions ≡ length sum.sessions
open_sessions p sum is = sym (length-map p.sessions _) ∙ ap (λ (s : Sum). length s.sessions) is
