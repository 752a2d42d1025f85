-- What is written a token at a time is the JSON text.
use Rattle.std.proofs.Common.{◌≡◌, ℕ, List, ◌∷◌, ◌++◌, [], Result, Ok, Err, ap, ◌∙◌, append_assoc}
use Rattle.std.specs.Result.{OnOk}
use Rattle.json.specs.Token.{Token}
use Rattle.json.specs.Print.{print}
use Rattle.serde_json.specs.Data.{Data, Members, object}
use Rattle.serde_json.specs.Written.{compact_text}
use Rattle.serde_json.proofs.Texts.{print-outline}
use Rattle.pres_tree.specs.JsonPrinting.{tokens_of, tokens_of_members}

-- the members and the end, after the start
pub object_written : {E : Type 0} (r : Result (Unit {0}) E) (new start old : List Token) (ms : Members) (d : Data)
    → start ≡ old ++ Token.begin_object ∷ [] → object ms ≡ d → OnOk r (new ≡ start ++ tokens_of_members ms) → OnOk r (new ≡ old ++ tokens_of d)
object_written (Ok x) new start old ms d begun is h =
    h ∙ ap (λ ts. ts ++ tokens_of_members ms) begun ∙ append_assoc old (Token.begin_object ∷ []) (tokens_of_members ms) ∙ ap (λ e. old ++ tokens_of e) is
object_written (Err e) new start old ms d begun is h = h

-- the text of the tokens of a value alone
pub text_written : {E : Type 0} (r : Result (Unit {0}) E) (text old : List ℕ) (start tokens : List Token) (d : Data)
    → text ≡ old ++ print tokens → start ≡ [] → OnOk r (tokens ≡ start ++ tokens_of d) → OnOk r (text ≡ old ++ compact_text d)
text_written (Ok x) text old start tokens d is none h =
    is ∙ ap (λ ts. old ++ print ts) (h ∙ ap (λ ts. ts ++ tokens_of d) none) ∙ ap (λ s. old ++ s) (print-outline d)
text_written (Err e) text old start tokens d is none h = h
