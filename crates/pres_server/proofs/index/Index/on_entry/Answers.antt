use Rattle.std.proofs.Common.{◌∙◌, ap, sym, [], ◌∷◌, cond}
use Rattle.pres_wire.specs.declared.down.Limit.TheVariants as limit
use Rattle.pres_log.specs.declared.entry.Entry.TheVariants as entry
use Rattle.pres_server.specs.Turns.{makes}
use Rattle.pres_server.proofs.Checks.{listens_more}
use Rattle.pres_server.proofs.index.Index.on_entry.Goals as goal

pub returns-then-may_listen : goal.returns-then-may_listen
returns-then-may_listen c =
    ap (λ b. makes (cond b (entry.On c.args.session c.args.q c.args.path) (entry.Denied c.args.session c.args.q limit.Listens) ∷ [])) (sym c.if-may_listen.true)
    ∙ listens_more c.args.session c.args.q c.args.path c.args.self.now.listeners c.may_listen.result c.may_listen.ensures.listeners c.may_listen.ensures.room

pub returns : goal.returns
returns c =
    ap (λ b. makes (cond b (entry.On c.args.session c.args.q c.args.path) (entry.Denied c.args.session c.args.q limit.Listens) ∷ [])) (sym c.if-may_listen.false)
    ∙ listens_more c.args.session c.args.q c.args.path c.args.self.now.listeners c.may_listen.result c.may_listen.ensures.listeners c.may_listen.ensures.room
