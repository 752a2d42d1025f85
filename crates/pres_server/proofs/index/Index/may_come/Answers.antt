use Rattle.std.proofs.Common.{◌≡◌, ◌∙◌, ◌+◌, ◌↔◌, sym, subst, ℕ, length, Bool, true, false, IsTrue, Result}
use Rattle.std.specs.Prelude.{IfOk}
use Rattle.std.proofs.lemmas.Bool.{false≢true}
use Rattle.std.proofs.lemmas.Result.{IfOk-weaker}
use Rattle.pres_write.specs.Outcomes.{resolved}
use Rattle.pres_write.specs.declared.op.Op.{Op}
use Rattle.pres_write.specs.declared.outcome.Outcome.{Outcome}
use Rattle.pres_ids.specs.declared.id.SessionId.{SessionId}
use Rattle.pres_retry.specs.Tables.{rows_of}
use Rattle.pres_log.specs.declared.entry.Entry.{Entry}
use Rattle.pres_log.specs.declared.entry.Entry.TheVariants as entry
use Rattle.pres_server.specs.declared.index.Index.{Index}
use Rattle.pres_server.specs.InternalIndex.{live_at}
use Rattle.pres_server.specs.InternalFollows.{IsNextBy, MayComeOn}
use Rattle.pres_server.proofs.index.Index.may_come.Goals as goal

-- what is said of the entry's form is said of the entry
as_form : (index : Index) (m : ℕ) (r : Bool) (e f : Entry) → e ≡ f → IsTrue r ↔ MayComeOn index m f → IsTrue r ↔ MayComeOn index m e
as_form index m r e f k h = subst (λ x. IsTrue r ↔ MayComeOn index m x) (sym k) h

as_result : {E : Type 0} (index : Index) (m : ℕ) (r : Result Bool E) (e f : Entry) → e ≡ f → IfOk r (λ may. IsTrue may ↔ MayComeOn index m f) → IfOk r (λ may. IsTrue may ↔ MayComeOn index m e)
as_result index m r e f k h = subst (λ x. IfOk r (λ may. IsTrue may ↔ MayComeOn index m x)) (sym k) h

abbrev IsWrite : Index → SessionId → ℕ → ℕ → Type 0
IsWrite index s q n = IsNextBy (live_at index s) s q × (n ≡ length (rows_of s.client index.retry) + 1)

no_write : (index : Index) (m : ℕ) (s : SessionId) (q n : ℕ) (op : Op) (outcome : Outcome) (r : Bool) → r ≡ false → IsTrue r ↔ IsWrite index s q n → IsTrue false ↔ MayComeOn index m (entry.Op s q n op outcome)
no_write index m s q n op outcome r e k = (λ h. absurd (false≢true h), λ h. sym e ∙ k.1 (h.0, h.1))

write : (index : Index) (m : ℕ) (s : SessionId) (q n : ℕ) (op : Op) (outcome : Outcome) (r : Bool) → r ≡ true → IsTrue r ↔ IsWrite index s q n → (b : Bool) → IsTrue b ↔ (outcome ≡ resolved index.tree m op) → IsTrue b ↔ MayComeOn index m (entry.Op s q n op outcome)
write index m s q n op outcome r e k b h = let w = k.0 e in (λ t. (w.0, w.1, h.0 t), λ f. h.1 f.2)

pub returns-in-Open : goal.returns-in-Open
returns-in-Open c = as_form c.args.self.now c.args.moment c.may_open.result c.args.entry.now (entry.Open c.in-Open.session) c.in-Open.is (c.may_open.ensures c.args.moment)

pub returns-then-not-may_write : goal.returns-then-not-may_write
returns-then-not-may_write c = as_form c.args.self.now c.args.moment false c.args.entry.now (entry.Op c.in-Op.session c.in-Op.q c.in-Op.n c.in-Op.op c.in-Op.outcome) c.in-Op.is (no_write c.args.self.now c.args.moment c.in-Op.session c.in-Op.q c.in-Op.n c.in-Op.op c.in-Op.outcome c.may_write.result c.if-not-may_write.true c.may_write.ensures)

pub returns-else-not-may_write : goal.returns-else-not-may_write
returns-else-not-may_write c =
    as_result c.args.self.now c.args.moment c.comes_to.result c.args.entry.now (entry.Op c.in-Op.session c.in-Op.q c.in-Op.n c.in-Op.op c.in-Op.outcome) c.in-Op.is
    (IfOk-weaker c.comes_to.result (λ may. IsTrue may ↔ (c.in-Op.outcome ≡ resolved c.args.self.now.tree c.args.moment c.in-Op.op)) (λ may. IsTrue may ↔ MayComeOn c.args.self.now c.args.moment (entry.Op c.in-Op.session c.in-Op.q c.in-Op.n c.in-Op.op c.in-Op.outcome)) (λ b h. write c.args.self.now c.args.moment c.in-Op.session c.in-Op.q c.in-Op.n c.in-Op.op c.in-Op.outcome c.may_write.result c.if-not-may_write.false c.may_write.ensures b h) c.comes_to.ensures)

pub returns-in-Again : goal.returns-in-Again
returns-in-Again c = as_form c.args.self.now c.args.moment c.may_repeat.result c.args.entry.now (entry.Again c.in-Again.session c.in-Again.q c.in-Again.n) c.in-Again.is (c.may_repeat.ensures c.args.moment)

pub returns-in-Left : goal.returns-in-Left
returns-in-Left c = as_form c.args.self.now c.args.moment c.may_leave.result c.args.entry.now (entry.Left c.in-Left.session c.in-Left.q c.in-Left.puts) c.in-Left.is (c.may_leave.ensures c.args.moment)

pub returns-in-Cancelled : goal.returns-in-Cancelled
returns-in-Cancelled c = as_form c.args.self.now c.args.moment c.may_cancel.result c.args.entry.now (entry.Cancelled c.in-Cancelled.session c.in-Cancelled.q c.in-Cancelled.path) c.in-Cancelled.is (c.may_cancel.ensures c.args.moment)

pub returns-in-Denied : goal.returns-in-Denied
returns-in-Denied c = as_form c.args.self.now c.args.moment c.comes_next.result c.args.entry.now (entry.Denied c.in-Denied.session c.in-Denied.q c.in-Denied.why) c.in-Denied.is c.comes_next.ensures

pub returns-in-On : goal.returns-in-On
returns-in-On c = as_form c.args.self.now c.args.moment c.may_listen.result c.args.entry.now (entry.On c.in-On.session c.in-On.q c.in-On.path) c.in-On.is (c.may_listen.ensures c.args.moment)

pub returns-in-Off : goal.returns-in-Off
returns-in-Off c = as_form c.args.self.now c.args.moment c.comes_next-in-Off.result c.args.entry.now (entry.Off c.in-Off.session c.in-Off.q c.in-Off.path) c.in-Off.is c.comes_next-in-Off.ensures

pub returns-in-Ended : goal.returns-in-Ended
returns-in-Ended c =
    as_result c.args.self.now c.args.moment c.may_end.result c.args.entry.now (entry.Ended c.in-Ended.session c.in-Ended.q c.in-Ended.why c.in-Ended.rows) c.in-Ended.is
    (subst (λ rows. IfOk c.may_end.result (λ may. IsTrue may ↔ MayComeOn c.args.self.now c.args.moment (entry.Ended c.in-Ended.session c.in-Ended.q c.in-Ended.why rows))) c.as_slice.ensures c.may_end.ensures)
