-- What can be read goes on from a history.
use Rattle.std.proofs.Common.{◌≡◌, ◌∙◌, [], ◌++◌, append_assoc, append-nil, Option, unwrap_or, sym, ap, subst, refl, inl, inr}
use Rattle.pres_log.specs.Logs.{Log}
use Rattle.pres_server.specs.Sums.{Sum}
use Rattle.pres_server.specs.Histories.{History, LeadsTo, begun_at, with_batches}
use Rattle.pres_keeper.specs.Keepers.{BeginsWith, whole}
use Rattle.pres_keeper.proofs.Behind.{batches_both, leads_both}

pub begins_itself : (history : History) → BeginsWith history (whole history)
begins_itself history = inl (record { more = []; base = refl; batches = sym (append-nil history.log) })

-- with more batches
pub begins_more : (history kept : History) (bs : Log) → BeginsWith history (whole kept) → BeginsWith history (whole (with_batches kept bs))
begins_more history kept bs (inl h) = inl (record { more = h.more ++ bs; base = h.base; batches = ap (λ l. l ++ bs) h.batches ∙ append_assoc history.log h.more bs })
begins_more history kept bs (inr h) = inr (record { more = h.more; sum = h.sum; base = h.base; leads = h.leads })

-- from the sum to which it leads
pub begins_later : (history kept : History) (sum : Sum) → LeadsTo kept sum → BeginsWith history (whole kept) → BeginsWith history (whole (begun_at sum))
begins_later history kept sum leads (inl h) =
    let base : kept.base ≡ history.base = ap (λ (o : Option Sum). unwrap_or o kept.base) h.base in
    let same : kept ≡ with_batches history h.more = λ i. record { base = base i; log = h.batches i } in
    inr (record { more = h.more; sum = sum; base = refl; leads = subst (λ k. LeadsTo k sum) same leads })
begins_later history kept sum leads (inr h) =
    let base : kept.base ≡ h.sum = ap (λ (o : Option Sum). unwrap_or o kept.base) h.base in
    let there : LeadsTo (with_batches history h.more) kept.base = subst (LeadsTo (with_batches history h.more)) (sym base) h.leads in
    inr (record { more = h.more ++ kept.log; sum = sum; base = refl; leads = subst (λ k. LeadsTo k sum) (batches_both history h.more kept.log) (leads_both (with_batches history h.more) kept sum there leads) })
