use Rattle.pres_client.specs.ReceivedMessages.{after_receive}
use Rattle.pres_client.proofs.Welcomes.{few_of}
use Rattle.pres_client.proofs.Silent.{few-receive}
use Rattle.pres_client.proofs.client.Client.receive.Goals as goal

pub returns-clause-few : goal.returns-clause-few
returns-clause-few c =
    let s = c.args.self.now in
    few_of c.take.result s (after_receive s c.args.message) c.take.new.self c.take.ensures.ok c.take.ensures.err (few-receive s c.args.message)
