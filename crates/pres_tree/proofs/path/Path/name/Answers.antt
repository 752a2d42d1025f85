use Rattle.std.proofs.Common.{◌≡◌, ◌++◌, drop, sym, ap, ◌∙◌, subst}
use Rattle.std.specs.Prelude.{string_bytes}
use Rattle.pres_tree.specs.Paths.{IsPath, segments, path_fault, path_text, keys_text}
use Rattle.pres_tree.proofs.Texts.{segments-name, path_fault-name}
use Rattle.pres_tree.proofs.path.Path.name.Goals as goal

pub returns-clause-reads_back : goal.returns-clause-reads_back
returns-clause-reads_back c =
    let p = c.args.self.now in
    let path : IsPath p = subst IsPath c.self.view_is c.self.invariant in
    let keys = sym c.in-Some.ensures.cases.0 ∙ c.deref.ensures.value ∙ c.self.view_is in
    let is : string_bytes c.push_keys.new.text ≡ drop 1 (path_text p) =
    c.in_ok-push_keys.ensures
    ∙ ap (λ bs. bs ++ keys_text c.in-Some.rest.now) (c.in_ok-name.ensures.ok ∙ c.text.ensures.text)
    ∙ ap (λ q. drop 1 (path_text q)) keys in
    (ap segments is ∙ segments-name p path, ap path_fault is ∙ path_fault-name p path)
