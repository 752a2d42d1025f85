use Rattle.std.proofs.Common.{inl, inr}
use Rattle.pres_file.proofs.keeper.keeper_for.Goals as goal

pub returns-in-Ok : goal.returns-in-Ok
returns-in-Ok g c = record {
  keeps =
      let it = c.in-Ok.ensures in
      record {
        clean = it.clean;
        new = it.new;
        ready = λ cause. elim cause [ inl new ↦ it.made new | inr ours ↦ it.ready ours ];
        empty = λ new now. it.empty new now;
        read = λ old now ours. it.read old now ours;
        found = λ history old now ours saved. it.found history old now ours saved;
      };
  ready = λ ours. elim ours [ inl none ↦ c.in-Ok.ensures.made (c.in-Ok.ensures.new.1 none) | inr ours ↦ c.in-Ok.ensures.ready ours ];
}
