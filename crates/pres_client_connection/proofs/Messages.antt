-- What is decoded is a message as a server makes them: a Push tells values at paths that rise.
use Rattle.std.proofs.Common.{◌≡◌, ℕ, Bool, true, false, if◌then◌else◌, List, Option, Some, None, option_and_then, Result, Ok, Err, IfOk, IfSome, map, refl, subst, codes}
use Rattle.serde_json.specs.Data.{Data}
use Rattle.serde_json.specs.Find.{get, as_str, as_array}
use Rattle.serde_json.specs.Read.{read}
use Rattle.pres_wire.specs.declared.down.Down.{Down}
use Rattle.pres_wire.specs.declared.down.Down.TheVariants as down
use Rattle.pres_wire.specs.declared.fault.Field.{Field}
use Rattle.pres_wire.specs.declared.fault.Field.TheVariants as field
use Rattle.pres_wire.specs.declared.fault.WireFault.{WireFault}
use Rattle.pres_wire.specs.declared.fault.WireFault.TheVariants.{NotJson, NoSuchMessage}
use Rattle.pres_wire.specs.declared.values.PathValue.{PathValue}
use Rattle.pres_wire.specs.DownReads.{decoded, json_read, by_word, welcome_read, reply_read, gone_read, fault_read, armed_read, denied_read, snap_read, push_read, off_done_read, values_field, values_of, values_of_items, if_rising, ops_field, out_field, why_field, code_field, session_or_null_field, limit_field, value_field}
use Rattle.pres_wire.specs.Fields.{field_of}
use Rattle.pres_wire.specs.UpForms.{and_then, needed, session_field, number_field, path_field}
use Rattle.pres_wire.specs.Values.{rise, Rising}
use Rattle.pres_client.specs.Steps.{IsMessage}

-- a message as a server makes them, where one is read
record Good (r : Result Down WireFault) : Type 0 where
  is_message : IfOk r IsMessage

made : (m : Down) → IsMessage m → Good (Ok m)
made m h = record { is_message = h }

refused : (e : WireFault) → Good (Err e)
refused e = record { is_message = tt }

-- a field, and what is read with it
with_field : {A : Type 0} (r : Result A WireFault) (f : A → Result Down WireFault) → ((a : A) → Good (f a)) → Good (and_then r f)
with_field (Ok a) f h = h a
with_field (Err e) f h = refused e

-- the same, where something is known of the field
with_known : {A : Type 0} (Q : A → Type 0) (r : Result A WireFault) (f : A → Result Down WireFault) → IfOk r Q → ((a : A) → Q a → Good (f a)) → Good (and_then r f)
with_known Q (Ok a) f q h = h a q
with_known Q (Err e) f q h = refused e

some_then : {A B : Type 0} (Q : B → Type 0) (o : Option A) (f : A → Option B) → ((a : A) → IfSome (f a) Q) → IfSome (option_and_then f o) Q
some_then Q (Some a) f h = h a
some_then Q None f h = tt

needed_then : {A : Type 0} (Q : A → Type 0) (named : Field) (o : Option A) → IfSome o Q → IfOk (needed named o) Q
needed_then Q named (Some a) q = q
needed_then Q named None q = tt

either : (b : Bool) (x y : Result Down WireFault) → Good x → Good y → Good (if b then x else y)
either true x y p q = p
either false x y p q = q

if_rise : (vs : List PathValue) (b : Bool) → rise (map (λ v. v.path) vs) ≡ b → IfSome (if b then Some vs else None) Rising
if_rise vs true is = is
if_rise vs false is = tt

values_rise : (d : Data) → IfOk (values_field d) Rising
values_rise d =
    needed_then Rising field.Values (field_of values_of (codes "values") d)
    (some_then Rising (get (codes "values") d) values_of
    (λ v. some_then Rising (option_and_then values_of_items (as_array v)) if_rising
    (λ vs. if_rise vs (rise (map (λ v. v.path) vs)) refl)))

welcome : (d : Data) → Good (welcome_read d)
welcome d = with_field (session_field d) _ (λ s. with_field (number_field field.Z d) _ (λ z. with_field (ops_field d) _ (λ ops. made (down.Welcome s z ops) tt)))

reply : (d : Data) → Good (reply_read d)
reply d = with_field (session_field d) _ (λ s. with_field (number_field field.R d) _ (λ r. with_field (number_field field.Z d) _ (λ z. with_field (number_field field.Q d) _ (λ q. with_field (number_field field.N d) _ (λ n. with_field (number_field field.Done d) _ (λ done. with_field (out_field d) _ (λ out. made (down.Reply s r z q n done out) tt)))))))

gone : (d : Data) → Good (gone_read d)
gone d = with_field (session_field d) _ (λ s. with_field (number_field field.R d) _ (λ r. with_field (number_field field.Z d) _ (λ z. with_field (why_field d) _ (λ reason. made (down.Gone s r z reason) tt))))

fault : (d : Data) → Good (fault_read d)
fault d = with_field (session_or_null_field d) _ (λ sn. with_field (code_field d) _ (λ c. made (down.Fault sn c) tt))

armed : (d : Data) → Good (armed_read d)
armed d = with_field (session_field d) _ (λ s. with_field (number_field field.R d) _ (λ r. with_field (number_field field.Z d) _ (λ z. with_field (number_field field.Q d) _ (λ q. made (down.Armed s r z q) tt))))

denied : (d : Data) → Good (denied_read d)
denied d = with_field (session_field d) _ (λ s. with_field (number_field field.R d) _ (λ r. with_field (number_field field.Z d) _ (λ z. with_field (number_field field.Q d) _ (λ q. with_field (limit_field d) _ (λ reached. made (down.Denied s r z q reached) tt)))))

snap : (d : Data) → Good (snap_read d)
snap d = with_field (session_field d) _ (λ s. with_field (number_field field.R d) _ (λ r. with_field (number_field field.Z d) _ (λ z. with_field (number_field field.Q d) _ (λ q. with_field (path_field d) _ (λ p. with_field (value_field d) _ (λ v. made (down.Snap s r z q p v) tt))))))

off_done : (d : Data) → Good (off_done_read d)
off_done d = with_field (session_field d) _ (λ s. with_field (number_field field.R d) _ (λ r. with_field (number_field field.Z d) _ (λ z. with_field (number_field field.Q d) _ (λ q. made (down.OffDone s r z q) tt))))

push : (d : Data) → Good (push_read d)
push d = with_field (session_field d) _ (λ s. with_field (number_field field.R d) _ (λ r. with_field (number_field field.Z d) _ (λ z. with_known Rising (values_field d) _ (values_rise d) (λ vs rising. made (down.Push s r z vs) rising))))

by_its_word : (d : Data) (w : Option (List ℕ)) → Good (by_word d w)
by_its_word d None = refused NoSuchMessage
by_its_word d (Some word) = either _ _ _ (welcome d) (either _ _ _ (reply d) (either _ _ _ (gone d) (either _ _ _ (fault d) (either _ _ _ (armed d) (either _ _ _ (denied d) (either _ _ _ (snap d) (either _ _ _ (push d) (either _ _ _ (off_done d) (refused NoSuchMessage)))))))))

in_json : (o : Option Data) → Good (json_read o)
in_json None = refused NotJson
in_json (Some d) = by_its_word d (option_and_then as_str (get (codes "m") d))

pub decoded_is_message : (text : List ℕ) (m : Down) → decoded text ≡ Ok m → IsMessage m
decoded_is_message text m is = subst (λ r. IfOk r IsMessage) is (in_json (read text)).is_message
