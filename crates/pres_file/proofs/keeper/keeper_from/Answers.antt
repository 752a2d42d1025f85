use Rattle.std.proofs.Common.{◌≡◌, arith}
use Rattle.sqlite.specs.Files.{file_state}
use Rattle.sqlite_trees.specs.View.{doubt}
use Rattle.pres_file.proofs.Successes.{from_one}
use Rattle.pres_file.proofs.keeper.keeper_from.Goals as goal

pub returns : goal.returns
returns g c = record {
  keeps = from_one c.keeper_for.result (λ it there now.
      let was : doubt (file_state c.in_ok-connection.connection).is_clean ≡ 0 = omega (arith, there.clean, now) in
      record {
        connection = c.in_ok-connection.connection;
        finds = c.in_ok-connection.ensures.finds was;
        new = there.new;
        ready = there.ready;
        empty = λ new. there.empty new now;
        read = λ old ours. there.read old now ours;
        found = λ history old ours saved. there.found history old now ours saved;
      }) c.keeper_for.ensures.keeps;
}
