use Rattle.std.proofs.Common.{◌∙◌, ap, sym, ◌≡◌, Some, None}
use Rattle.pres_tree.specs.Paths.{path_cmp}
use Rattle.pres_client_state.specs.Watches.{tell, watch_of, with_watch}
use Rattle.pres_client_state.specs.declared.watch.Watch.{Watch}
use Rattle.pres_tree.specs.Falls.{path_total}
use Rattle.pres_client_state.proofs.Maps.{find_at, put_value}
use Rattle.pres_client_state.proofs.Told.{tell_known, tell_unknown}
use Rattle.pres_client_state.proofs.watch.Watches.tell.Goals as goal

pub returns-in_default : goal.returns-in_default
returns-in_default c =
    let p = c.args.path.now in
    let es = c.self.inside.by_path.entries in
    let known : watch_of p es ≡ None = sym (find_at path_cmp p es) ∙ sym c.in_default.ensures.value in
    (λ i. (c.get_mut.follows.holds-at-none i).entries) ∙ tell_unknown p c.args.value es known ∙ ap (tell p c.args.value) c.self.view_is

pub returns : goal.returns
returns c =
    let p = c.args.path.now in
    let es = c.self.inside.by_path.entries in
    let old = c.in-Some.watch.now in
    let new : Watch = record old { shown = c.replace.new.dest } in
    let known : watch_of p es ≡ Some old = sym (find_at path_cmp p es) ∙ sym c.in-Some.ensures.value in
    (c.get_mut.follows.holds new).0
    ∙ put_value path_cmp path_total p new old es c.get_mut.ensures.ordered (sym c.in-Some.ensures.value)
    ∙ ap (λ s. with_watch p (record old { shown = s }) es) c.replace.ensures.after
    ∙ tell_known p c.args.value es old known
    ∙ ap (tell p c.args.value) c.self.view_is
