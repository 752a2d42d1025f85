use Rattle.std.proofs.Common.{◌≡◌, ◌∷◌, [], pos, IsTrue, sym, ap, subst, ◌∙◌, arith, rules, to_z, w64, OnOk, refl}
use Rattle.std.proofs.lemmas.Int.{ints}
use Rattle.std.proofs.lemmas.Result.{on_ok_weaker}
use Rattle.sqlite.specs.Tree.{Trees}
use Rattle.sqlite.specs.Effect.{Database}
use Rattle.sqlite.specs.Held.{state}
use Rattle.sqlite.specs.State.{HasCleanDisk, Survives}
use Rattle.sqlite.proofs.StateLemmas.{survives_then}
use Rattle.sqlite.proofs.Callers.{survives_begin}
use Rattle.pres_batch_rows.specs.RowContents.{RowContent, stored}
use Rattle.pres_batch_rows.specs.TableStates.{IsOfFormatTwo, IsCheckpointed, Holds}
use Rattle.pres_batch_rows.proofs.Checkpointing.{HoldsInside, all_three}
use Rattle.pres_batch_rows.proofs.checkpoint.put_checkpoint.Goals as goal

pub returns-clause-ok : goal.returns-clause-ok
returns-clause-ok g c clean k awaits =
    let ek : to_z w64 c.args.number ≡ pos c.args.number = omega (arith, ints, c.requires.number) in
    let em : to_z w64 c.millis-millis.result ≡ pos c.args.moment = omega (arith, ints, c.millis-millis.ensures.millis, c.millis-millis.ensures.bound) in
    let et : c.as_bytes-text.result.now ≡ c.args.body.now = search rules in
    let b : RowContent = record { moment = c.args.moment; body = c.args.body.now } in
    let old = state g.S.Store c.args.connection.now in
    let start = state g.S.Store c.transaction-tx.result.conn.now in
    let first = state g.S.Store c.execute.new.self.conn.now in
    let second = state g.S.Store c.execute-2.new.self.conn.now in
    let third = state g.S.Store c.execute-3.new.self.conn.now in
    let begun = c.transaction-tx.ensures.begun in
    let end = c.commit.new.self.0 in
    let same : end ≡ c.connection-2-1.given.0 = search rules in
    let ended : HasCleanDisk (state g.S.Store end) = rw (same) clean in
    let late : HasCleanDisk third = omega (arith, c.commit.ensures.survives.clean, ended) in
    let later : HasCleanDisk second = omega (arith, c.execute-3.ensures.survives.clean, late) in
    let soon : HasCleanDisk first = omega (arith, c.execute-2.ensures.survives.clean, later) in
    let begins = rw begun at c.execute.ensures.survives.clean in
    let early : HasCleanDisk old = omega (arith, begins, soon) in
    let one = c.in_ok-execute.ensures.runs soon (rw begun) in
    let two = c.in_ok-execute-2.ensures.runs later one.1.mode in
    let three = c.in_ok-execute-3.ensures.runs late two.1.mode in
    let live : IsTrue old.is_open = rw begun at one.1.was_open in
    let ours : IsOfFormatTwo old.now = ((awaits early).ready live).ours in
    let it : HoldsInside old start (old.now.trees 3) (old.now.trees 2) = rw begun (record { base_is = refl; rows_are = refl; format = refl; schema = refl; committed = refl; mode = refl }) in
    let all = all_three old ours start first second third c.args.number b c.in_ok-execute.field-0 c.in_ok-execute-2.field-0 c.in_ok-execute-3.field-0 it one (rw (ek, em, et) at two) three in
    let finish : OnOk c.commit.result (IsCheckpointed old (state g.S.Store end) c.args.number b) = on_ok_weaker c.commit.result (λ done. record {
      rows = ap (λ (d : Database). d.trees 2) done.1.now_is ∙ all.rows_are;
      base = ap (λ (d : Database). d.trees 3) done.1.now_is ∙ all.base_is;
      format = ap (λ (d : Database). d.trees 0) done.1.now_is ∙ all.format;
      schema = ap (λ (d : Database). d.schema) done.1.now_is ∙ all.schema;
      committed = done.1.committed_is ∙ sym done.1.now_is;
      mode = done.1.mode;
      was_open = live;
      is_open = done.1.is_open;
    }) (c.commit.ensures.ok ended) in
    subst (λ h. OnOk c.commit.result (IsCheckpointed old (state g.S.Store h) c.args.number b)) same finish

pub returns-clause-crash : goal.returns-clause-crash
returns-clause-crash g c k awaits =
    let ek : to_z w64 c.args.number ≡ pos c.args.number = omega (arith, ints, c.requires.number) in
    let em : to_z w64 c.millis-millis.result ≡ pos c.args.moment = omega (arith, ints, c.millis-millis.ensures.millis, c.millis-millis.ensures.bound) in
    let et : c.as_bytes-text.result.now ≡ c.args.body.now = search rules in
    let b : RowContent = record { moment = c.args.moment; body = c.args.body.now } in
    let was = c.args.connection.now in
    let old = state g.S.Store was in
    let start = state g.S.Store c.transaction-tx.result.conn.now in
    let first = state g.S.Store c.execute.new.self.conn.now in
    let second = state g.S.Store c.execute-2.new.self.conn.now in
    let third = state g.S.Store c.execute-3.new.self.conn.now in
    let begun = c.transaction-tx.ensures.begun in
    let end = c.commit.new.self.0 in
    let same : end ≡ c.connection-2-1.given.0 = search rules in
    let begins = rw begun at c.execute.ensures.survives.clean in
    let holds : HasCleanDisk third → Holds old (stored c.args.number b ∷ []) [] third.now.trees = λ late.
    let later : HasCleanDisk second = omega (arith, c.execute-3.ensures.survives.clean, late) in
    let soon : HasCleanDisk first = omega (arith, c.execute-2.ensures.survives.clean, later) in
    let early : HasCleanDisk old = omega (arith, begins, soon) in
    let one = c.in_ok-execute.ensures.runs soon (rw begun) in
    let two = c.in_ok-execute-2.ensures.runs later one.1.mode in
    let three = c.in_ok-execute-3.ensures.runs late two.1.mode in
    let live : IsTrue old.is_open = rw begun at one.1.was_open in
    let ours : IsOfFormatTwo old.now = ((awaits early).ready live).ours in
    let it : HoldsInside old start (old.now.trees 3) (old.now.trees 2) = rw begun (record { base_is = refl; rows_are = refl; format = refl; schema = refl; committed = refl; mode = refl }) in
    let all = all_three old ours start first second third c.args.number b c.in_ok-execute.field-0 c.in_ok-execute-2.field-0 c.in_ok-execute-3.field-0 it one (rw (ek, em, et) at two) three in
    (live, all.rows_are, all.base_is, all.format) in
    let none = λ (db : Trees). ⊥ in
    let two_calls = survives_then start first second _ _ none (λ _ db x. x) (λ _ db x. x) c.execute.ensures.survives c.execute-2.ensures.survives in
    let inside = survives_then start second third _ _ none (λ _ db x. x) (λ _ db x. x) two_calls c.execute-3.ensures.survives in
    let whole = survives_then old third (state g.S.Store end) _ _ (Holds old (stored c.args.number b ∷ []) []) (λ _ db x. absurd x)
    (λ clean db is. subst (Holds old (stored c.args.number b ∷ []) []) (sym is) (holds (omega (arith, c.commit.ensures.survives.clean, clean))))
    (survives_begin g.S.Store was third _ (rw begun at inside)) c.commit.ensures.survives in
    subst (λ h. Survives old (state g.S.Store h) (Holds old (stored c.args.number b ∷ []) [])) same whole
