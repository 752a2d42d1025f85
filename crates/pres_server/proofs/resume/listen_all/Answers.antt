use Rattle.std.proofs.Common.{sym, ap, subst, Err, arith}
use Rattle.pres_server.proofs.Resumed.{Listens, listens_few, listens_more}
use Rattle.pres_server.proofs.resume.listen_all.Goals as goal

pub loop-path-preserved : goal.loop-path-preserved
loop-path-preserved c =
    let s = c.args.session.now in
    let old = c.args.listeners.now in
    let places = c.args.places in
    let rest = c.next.new.self.rest.items in
    subst (Listens s old places rest) (sym c.in-Ok.ensures.ok)
    (listens_more s old places c.in-Some.path rest c.loop-path.listeners (subst (λ l. Listens s old places l c.loop-path.listeners) c.in-Some.ensures.steps.0 c.loop-path.invariant) c.requires)

pub unreachable-requires : goal.unreachable-requires
unreachable-requires c =
    let s = c.args.session.now in
    let old = c.args.listeners.now in
    let places = c.args.places in
    let few = listens_few s old places c.in-Some.path c.next.new.self.rest.items c.loop-path.listeners (subst (λ l. Listens s old places l c.loop-path.listeners) c.in-Some.ensures.steps.0 c.loop-path.invariant) c.requires in
    let many = c.in-Err-Full.ensures.full.0 (ap Err c.in-Err-Full.field-0-is) in
    omega arith
