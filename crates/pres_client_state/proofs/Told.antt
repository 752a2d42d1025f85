-- What is received for the paths that are listened to.
use Rattle.std.proofs.Common.{◌≡◌, Some, None, refl}
use Rattle.pres_tree.specs.declared.scalar.Scalar.{Scalar}
use Rattle.pres_tree.specs.Paths.{Path}
use Rattle.pres_tree.specs.Rows.{Rows}
use Rattle.pres_client_state.specs.declared.watch.Watch.{Watch}
use Rattle.pres_client_state.specs.declared.watch.Shown.TheVariants.{Live}
use Rattle.pres_client_state.specs.Watches.{Watches, watch_of, with_watch, tell}

pub tell_known : (p : Path) (v : Rows Scalar) (ws : Watches) (w : Watch) → watch_of p ws ≡ Some w → with_watch p (record w { shown = Live v }) ws ≡ tell p v ws
tell_known p v ws w known = rw known refl

pub tell_unknown : (p : Path) (v : Rows Scalar) (ws : Watches) → watch_of p ws ≡ None → ws ≡ tell p v ws
tell_unknown p v ws known = rw known refl
