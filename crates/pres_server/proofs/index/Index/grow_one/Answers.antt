use Rattle.std.proofs.Common.{sym, subst, [], ◌∷◌}
use Rattle.std.proofs.lemmas.Result.{IfOk-weaker}
use Rattle.pres_tree.specs.Rows.{IsValue}
use Rattle.pres_server.specs.InternalIndex.{StepsAt}
use Rattle.pres_server.specs.Sums.{sum_after}
use Rattle.pres_server.specs.InternalSums.{Agrees}
use Rattle.pres_server.proofs.SumSteps.{first_carries}
use Rattle.pres_server.proofs.Alike.{answering, may_take_alike, alike_then, alike_tree, finds_open, may_keep, place_kept, silent_alike, may_settle, grown, alike_where}
use Rattle.pres_server.proofs.index.Index.grow_one.Goals as goal

pub make_room-requires : goal.make_room-requires
make_room-requires c =
    let f = c.requires.1 in
    finds_open c.requires.0 c.args.made.moment c.args.entry.now c.args.self.now f.agrees f.in_turn.0

pub carry-requires-clause-pushes : goal.carry-requires-clause-pushes
carry-requires-clause-pushes c =
    let sum = c.requires.0 in
    let e = c.args.entry.now in
    let room = c.make_room.new.self in
    let f = may_take_alike sum c.args.made.number c.args.made.moment (e ∷ []) c.args.self.now room c.make_room.ensures.alike c.requires.1 in
    (first_carries sum c.args.made.number c.args.made.moment (e ∷ []) e [] room (λ i. e ∷ []) f).writes

pub carry-requires-clause-keeps : goal.carry-requires-clause-keeps
carry-requires-clause-keeps c =
    let sum = c.requires.0 in
    let e = c.args.entry.now in
    let room = c.make_room.new.self in
    let f = may_take_alike sum c.args.made.number c.args.made.moment (e ∷ []) c.args.self.now room c.make_room.ensures.alike c.requires.1 in
    may_keep sum c.args.made.moment e room f.agrees f.in_turn.0

pub settle-requires-clause-may : goal.settle-requires-clause-may
settle-requires-clause-may c =
    let sum = c.requires.0 in
    let e = c.args.entry.now in
    let room = c.make_room.new.self in
    let f = may_take_alike sum c.args.made.number c.args.made.moment (e ∷ []) c.args.self.now room c.make_room.ensures.alike c.requires.1 in
    (room.retry, may_settle sum c.args.made.number c.args.made.moment e [] room c.carry.new.self f c.in_ok-carry.ensures.carried)

pub settle-requires-clause-room : goal.settle-requires-clause-room
settle-requires-clause-room c = place_kept c.make_room.new.self c.carry.new.self c.args.entry.now c.in_ok-carry.ensures.carried.gone c.in_ok-make_room.ensures.room

pub returns-clause-agrees : goal.returns-clause-agrees
returns-clause-agrees c = λ sum g.
    let e = c.args.entry.now in
    let z = c.args.made.number in
    let m = c.args.made.moment in
    let room = c.make_room.new.self in
    let mid = c.carry.new.self in
    let carried = c.in_ok-carry.ensures.carried in
    let f = may_take_alike sum z m (e ∷ []) c.args.self.now room c.make_room.ensures.alike g in
    IfOk-weaker c.settle.result (λ _. StepsAt c.args.made (answering room.retry mid) c.settle.new.self e) (λ _. Agrees c.settle.new.self (sum_after e sum))
    (λ _ st. grown sum z m e room mid c.settle.new.self f carried st)
    (c.settle.ensures.steps room.retry carried.retry)

pub returns-clause-unchanged : goal.returns-clause-unchanged
returns-clause-unchanged c =
    let e = c.args.entry.now in
    let old = c.args.self.now in
    let room = c.make_room.new.self in
    let mid = c.carry.new.self in
    let new = c.settle.new.self in
    let alike = c.make_room.ensures.alike in
    let value : IsValue room.tree = subst IsValue (sym (alike_tree old room alike)) c.is_empty.ensures.value in
    alike_where c.settle.result (λ silent kept. alike_then old room new alike (alike_then room mid new (silent_alike c.args.made.number e room mid silent value c.in_ok-carry.ensures.carried) kept)) c.settle.ensures.silent c.settle.ensures.alike
