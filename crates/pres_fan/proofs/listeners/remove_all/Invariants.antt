use Rattle.std.proofs.Common.{◌≡◌, ◌&&◌, not}
use Rattle.std.specs.List.{list_any}
use Rattle.pres_tree.specs.Paths.{Path, same_path}
use Rattle.pres_ids.specs.Ids.{same_session}
use Rattle.pres_ids.specs.declared.id.SessionId.{SessionId}
use Rattle.pres_fan.specs.Levels.{heard, IsTidy}
use Rattle.pres_fan.proofs.listeners.remove_all.Given as goal

-- without the paths that are left, those listen who listen without all of the paths
abbrev pub invariant-loop-path : goal.invariant-loop-path
invariant-loop-path l = record {
  left : (p : Path) (s : SessionId) → (not (same_session l.session s && list_any (same_path p) l.path-iterator) && heard p s l.root) ≡ (not (same_session l.session s && list_any (same_path p) l.fn.paths.keys) && heard p s l.fn.root);
  tidy : IsTidy l.fn.root → IsTidy l.root;
}
