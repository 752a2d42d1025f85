use denote.Exit.{no}
use denote.Param.{param}
use denote.Param.Send.{param_send, arg_send}
use Rattle.pres_sock.proofs.Crossing.{arrival_send, begun_send}
use Rattle.pres_sock.proofs.serve.serve_stream.Goals as goal

pub apart-served-requires-send-T : goal.apart-served-requires-send-T
apart-served-requires-send-T g c κs within =
    let t = c.type_bounds in
    let r = g.row in
    param_send _ _ (arg_send _ no _ (arrival_send _ (param 0 r.L) (param 1 r.K) (param 2 r.B) (param 3 r.G) (param 4 r.R) (param 5 r.S) (param 6 r.C) g.L.Ledger g.K.Keeper t.send-K t.send-B t.sync-G t.sync-R t.send-S t.send-C))

pub apart-served-requires-send-A : goal.apart-served-requires-send-A
apart-served-requires-send-A g c κs within =
    let t = c.type_bounds in
    let r = g.row in
    param_send _ _ (arg_send _ no _ (begun_send (param 0 r.L) (param 2 r.B) (param 5 r.S) g.L.Ledger t.send-B t.send-S))
