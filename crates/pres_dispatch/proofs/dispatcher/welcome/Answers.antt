use Rattle.std.proofs.Common.{◌≡◌, sym, ◌∙◌, ap, subst, [], ◌∷◌, ◌++◌}
use Rattle.pres_ring.specs.Transcripts.{those_for, IsWelcome}
use Rattle.pres_ring.specs.Lines.{line_at, has_line}
use Rattle.pres_ring.specs.Deliveries.{FitsTranscript, LineAfter, LineFits}
use Rattle.pres_dispatch.proofs.Joined.{same_parts, told_before, stays, put_before, fits_before, own_line, other_line}
use Rattle.pres_dispatch.proofs.dispatcher.welcome.Goals as goal

pub deliver-requires : goal.deliver-requires
deliver-requires c =
    let e : c.args.answers ≡ c.of.result ++ c.in-Some.message ∷ [] = sym c.into_vec-answers.ensures ∙ c.in-Some.ensures.items ∙ ap (λ l. l ++ c.in-Some.message ∷ []) (sym c.of.ensures) in
    record { told = λ s. told_before s c.of.result c.in-Some.message (line_at s c.args.lines.now) (subst (λ ms. FitsTranscript s ms (line_at s c.args.lines.now)) e (c.requires.told s)) }

pub attach-requires : goal.attach-requires
attach-requires c =
    let e : c.args.answers ≡ c.of.result ++ c.in-Some.message ∷ [] = sym c.into_vec-answers.ensures ∙ c.in-Some.ensures.items ∙ ap (λ l. l ++ c.in-Some.message ∷ []) (sym c.of.ensures) in
    let same = same_parts c.of.result c.requires.last.others c.in-Some.message c.requires.last.last (sym e ∙ c.requires.last.parted) in
    ap (λ f. has_line f.session c.deliver.new.self) c.welcome-feed.ensures.feed
    ∙ stays c.args.opening c.of.result (line_at c.args.opening c.args.lines.now) (line_at c.args.opening c.deliver.new.self) (ap (those_for c.args.opening) same.0 ∙ c.requires.last.silent) c.requires.place (c.deliver.ensures.delivered c.args.opening)

pub returns : goal.returns
returns c =
    let s = c.args.opening in
    let m = c.in-Some.message in
    let e : c.args.answers ≡ c.of.result ++ m ∷ [] = sym c.into_vec-answers.ensures ∙ c.in-Some.ensures.items ∙ ap (λ l. l ++ m ∷ []) (sym c.of.ensures) in
    let same = same_parts c.of.result c.requires.last.others m c.requires.last.last (sym e ∙ c.requires.last.parted) in
    let is : IsWelcome s m = subst (IsWelcome s) (sym same.1) c.requires.last.welcome in
    record {
      lines = record {
        earlier = c.of.result;
        last = m;
        parted = e;
        own = own_line s c.welcome-feed.result.0 m c.deliver.new.self c.attach.new.self c.welcome-feed.ensures.feed c.attach.ensures;
        others = λ t k.
            subst (λ ms. LineAfter t ms (line_at t c.args.lines.now) (line_at t c.attach.new.self)) (sym e)
            (put_before t s c.of.result m (line_at t c.args.lines.now) (line_at t c.attach.new.self) is k
            (subst (LineAfter t c.of.result (line_at t c.args.lines.now)) (sym (other_line s c.welcome-feed.result.0 m c.deliver.new.self c.attach.new.self c.welcome-feed.ensures.feed c.attach.ensures t k)) (c.deliver.ensures.delivered t)));
        fits = λ t k.
            subst (λ ms. LineFits t ms (line_at t c.args.lines.now) (line_at t c.attach.new.self)) (sym e)
            (fits_before t s c.of.result m (line_at t c.args.lines.now) (line_at t c.attach.new.self) is k
            (subst (LineFits t c.of.result (line_at t c.args.lines.now)) (sym (other_line s c.welcome-feed.result.0 m c.deliver.new.self c.attach.new.self c.welcome-feed.ensures.feed c.attach.ensures t k)) (c.deliver.ensures.fits t)));
        outbox = c.welcome-feed.ensures.outbox;
      };
    }
