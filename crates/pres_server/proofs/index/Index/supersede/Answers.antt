use Rattle.std.proofs.Common.{refl, sym, subst, [], ◌∷◌, IsSome, Option, Some, None}
use Rattle.pres_log.specs.declared.entry.Entry.TheVariants as entry
use Rattle.pres_log.specs.Logs.{writes_of}
use Rattle.pres_server.specs.declared.index.Index.{Index}
use Rattle.pres_server.specs.Batches.{Supersedes}
use Rattle.pres_server.specs.InternalSessions.{Session, HasRoom}
use Rattle.pres_server.specs.InternalIndex.{session_at, retry_after, MayTake, Carries}
use Rattle.pres_server.specs.Sums.{sum_after}
use Rattle.pres_server.specs.InternalSums.{Agrees}
use Rattle.pres_server.proofs.SumSteps.{first_carries}
use Rattle.pres_server.proofs.Alike.{answering, may_keep, may_settle}
use Rattle.pres_server.proofs.Superseded.{superseded}
use Rattle.pres_server.proofs.index.Index.supersede.Goals as goal

room_some : (live : Option Session) → HasRoom live → IsSome live
room_some None h = absurd h
room_some (Some session) h = refl

pub carry-requires-clause-pushes : goal.carry-requires-clause-pushes
carry-requires-clause-pushes c =
    let e = c.args.ended.now in
    let more = entry.Open c.args.opened.now ∷ [] in
    (first_carries c.requires.may.0 c.args.made.number c.args.made.moment (e ∷ more) e more c.args.self.now refl c.requires.may.1).writes

pub carry-requires-clause-keeps : goal.carry-requires-clause-keeps
carry-requires-clause-keeps c = may_keep c.requires.may.0 c.args.made.moment c.args.ended.now c.args.self.now c.requires.may.1.agrees c.requires.may.1.in_turn.0

pub supersede-requires : goal.supersede-requires
supersede-requires c =
    let old = c.args.self.now in
    let mid = c.carry.new.self in
    let t = c.args.opened.now in
    let may : MayTake (answering old.retry mid) c.args.ended.now = may_settle c.requires.may.0 c.args.made.number c.args.made.moment c.args.ended.now (entry.Open t ∷ []) old mid c.requires.may.1 c.in_ok-carry.ensures.carried in
    let here = subst (MayTake (answering old.retry mid)) c.in-Ended.is may in
    let client = (subst (λ e. Supersedes e (entry.Open t)) c.in-Ended.is c.requires.ends).1 in
    subst (λ k. IsSome (session_at mid k)) client (room_some _ here.0)

pub returns-clause-agrees : goal.returns-clause-agrees
returns-clause-agrees c = λ sum g.
    let old = c.args.self.now in
    let mid = c.carry.new.self in
    let t = c.args.opened.now in
    let z = c.args.made.number in
    let is = c.in-Ended.is in
    let client = (subst (λ e. Supersedes e (entry.Open t)) is c.requires.ends).1 in
    let carried = subst (λ e. Carries (writes_of e) (answering (retry_after z e old.retry) old) mid) is c.in_ok-carry.ensures.carried in
    let new : Index = record { places = c.supersede.new.self; retry = mid.retry; listeners = c.drop_session.new.self; tree = mid.tree } in
    subst (λ e. Agrees new (sum_after (entry.Open t) (sum_after e sum))) (sym is)
    (superseded sum z c.args.made.moment c.in-Ended.session c.in-Ended.q c.in-Ended.why c.in-Ended.rows t old mid new
    g.agrees client carried (record { live = c.supersede.ensures.live; gone = c.supersede.ensures.gone }) refl c.drop_session.ensures refl)
