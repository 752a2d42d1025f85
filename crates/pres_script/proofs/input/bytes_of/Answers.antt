use Rattle.std.proofs.Common.{arith, ◌≡◌, ◌<◌, ◌++◌, [], length, take, sym, ap, subst, ◌∙◌, append-nil}
use Rattle.std.specs.Io.KnownBytes.{Consumes}
use Rattle.std.proofs.KnownBytes.{Consumes-nil, Consumes-trans}
use Rattle.pres_script.proofs.Inputs.{all_read}
use Rattle.pres_script.proofs.input.bytes_of.Goals as goal

pub loop-init : goal.loop-init
loop-init g c =
    let input = g.I.Read.remaining c.args.input.now in
    (subst (λ bytes. Consumes input input bytes) (sym c.new-bytes.ensures.items) (Consumes-nil input), omega (arith, c.as_mut_slice-piece.ensures.len, c.in_ok-room.ensures.len))

pub returns-in-Ok-eq0-clause-read : goal.returns-in-Ok-eq0-clause-read
returns-in-Ok-eq0-clause-read g c =
    let input = g.I.Read.remaining c.args.input.now in
    let rest = g.I.Read.remaining c.read.new.self in
    let seen = c.loop.bytes.items in
    let room : 0 < length c.read.new.buf = omega (arith, c.read.auto.buf, c.loop.invariant.1) in
    let last : take c.in-Ok-eq0.field-0 c.read.new.buf ≡ [] = ap (λ n. take n c.read.new.buf) c.in-Ok-eq0.field-0-test in
    let read = Consumes-trans input (g.I.Read.remaining c.loop.input) rest seen (take c.in-Ok-eq0.field-0 c.read.new.buf) c.loop.invariant.0 c.in-Ok-eq0.ensures.bytes.0 in
    all_read input rest seen (subst (λ bytes. Consumes input rest bytes) (ap (λ bytes. seen ++ bytes) last ∙ append-nil seen) read) (c.in-Ok-eq0.ensures.bytes.1 c.in-Ok-eq0.field-0-test room)

pub loop-preserved : goal.loop-preserved
loop-preserved g c =
    let input = g.I.Read.remaining c.args.input.now in
    let rest = g.I.Read.remaining c.read.new.self in
    let piece = take c.in-Ok.count c.read.new.buf in
    (subst (λ bytes. Consumes input rest bytes) (sym c.in_ok-extend_from_slice-in-Ok.ensures.items) (Consumes-trans input (g.I.Read.remaining c.loop.input) rest c.loop.bytes.items piece c.loop.invariant.0 c.in-Ok.ensures.bytes.0), omega (arith, c.read.auto.buf, c.loop.invariant.1))
