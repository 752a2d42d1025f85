use Rattle.std.proofs.Common.{◌≡◌, ◌++◌, length, sym, ap, ◌∙◌, arith, ◌<◌, subst}
use Rattle.std.proofs.lemmas.Bool.Decides.{nat_tests}
use Rattle.std.specs.Prelude.{string_bytes}
use Rattle.pres_tree.specs.Paths.{IsPath, segments, path_fault, keys_text, path_text}
use Rattle.pres_tree.proofs.Texts.{path_text-some, segments-path_text, path_fault-path_text}
use Rattle.pres_tree.proofs.path.Path.text.Goals as goal

pub returns-clause-reads_back : goal.returns-clause-reads_back
returns-clause-reads_back c =
    let p = c.args.self.now in
    let keys = c.deref.result.now in
    let same : keys ≡ p = c.deref.ensures.value ∙ c.self.view_is in
    let some : 0 < length p = grind (arith, nat_tests, sym (ap length same), c.deref.ensures.len, c.is_empty.ensures, c.if-is_empty.false) in
    let path : IsPath p = subst IsPath c.self.view_is c.self.invariant in
    let is : string_bytes c.push_keys.new.text ≡ path_text p = c.in_ok-push_keys.ensures ∙ ap (λ bs. bs ++ keys_text keys) c.new-text.ensures.bytes ∙ ap keys_text same ∙ path_text-some p some in
    (ap segments is ∙ segments-path_text p path, ap path_fault is ∙ path_fault-path_text p path)
