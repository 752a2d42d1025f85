use Rattle.std.proofs.Common.{◌≡◌, ◌&&◌, not, sym, ap, subst, ◌∙◌}
use Rattle.std.specs.List.{list_any}
use Rattle.pres_tree.specs.Paths.{Path, same_path}
use Rattle.pres_ids.specs.Ids.{same_session}
use Rattle.pres_ids.specs.declared.id.SessionId.{SessionId}
use Rattle.pres_fan.specs.Levels.{heard}
use Rattle.pres_fan.specs.Listeners.{listener_of, same_listener}
use Rattle.pres_fan.proofs.Held.{dropped_more}
use Rattle.pres_fan.proofs.listeners.remove_all.Goals as goal

pub loop-path-preserved : goal.loop-path-preserved
loop-path-preserved c =
    let t = c.args.session.now in
    let old = c.loop-path.root in
    let new = c.remove.new.self in
    let left = subst (λ ks. (p : Path) (s : SessionId) → heard p s new ≡ (not (same_listener (listener_of t ks) (listener_of s p)) && heard p s old)) c.keys.ensures.keys c.remove.ensures.left in
    record {
      left = λ p s.
          dropped_more t c.in-Some.path c.next.new.self old new left p s
          ∙ ap (λ paths. not (same_session t s && list_any (same_path p) paths) && heard p s old) (sym c.in-Some.ensures.steps)
          ∙ c.loop-path.invariant.left p s;
      tidy = λ h. c.remove.ensures.tidy (c.loop-path.invariant.tidy h);
    }
