use Rattle.std.proofs.Common.{◌≡◌, ◌∙◌, inl, inr}
use Rattle.std.proofs.lemmas.Result.{IfErr-weaker}
use Rattle.pres_server.specs.InternalParts.{session_with}
use Rattle.pres_world.specs.declared.event.Ending.TheVariants as ending
use Rattle.pres_world.specs.ServerSides.{open_on}
use Rattle.pres_world.proofs.Lost.{lost_is}
use Rattle.pres_world.proofs.server_side.ServerSide.lose.Goals as goal

pub returns-clause-err : goal.returns-clause-err
returns-clause-err c =
    let client = c.args.client.now in
    let session : c.of-session.result ≡ session_with client c.in-Some.stamp = λ i. record { client = (c.of-session.ensures.client ∙ c.in_ok-copy.ensures) i; incarnation = (c.of-session.ensures.stamp i).incarnation; attempt = (c.of-session.ensures.stamp i).attempt } in
    IfErr-weaker c.turn.result _ _
    (λ e h. (
      h.0,
      elim h.1 [
        | inl is ↦ inl is
        | inr is ↦ inr (is ∙ lost_is c.args.self.now c.args.now ending.Stopped client c.in-Some.stamp (open_on c.args.self.now.server client) c.of-session.result c.in-Some.ensures session)
      ],
    ))
    c.turn.ensures.err
