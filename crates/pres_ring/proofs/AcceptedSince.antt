-- How many messages a history accepted.
use Rattle.std.proofs.Common.{◌∙◌, ap, ◌≡◌, ◌+◌, List, [], ◌∷◌, length, arith, length-append}
use Rattle.pres_log.specs.declared.entry.Batch.{Batch}
use Rattle.pres_log.specs.declared.entry.Entry.{Entry}
use Rattle.pres_log.specs.Logs.{Log, entries}
use Rattle.pres_log.proofs.Entries.{entries-push}
use Rattle.pres_server.specs.Sums.{Sum, sum_after, sum_after_all, sum_with, sum_from}
use Rattle.pres_server.specs.Histories.{History}
use Rattle.pres_ring.specs.AcceptedMessages.{accepted}
use Rattle.pres_ring.specs.LawsByTheSum.{AcceptedSinceAdds, AcceptedSinceIsFew}
use Rattle.pres_ring.proofs.Made.{accepted_adds, accepted_is_few}

-- the number rises by one for each entry
number_all : (es : List Entry) (sum : Sum) → (sum_after_all es sum).number ≡ sum.number + length es
number_all [] sum = let none : sum.number ≡ sum.number + 0 = omega arith in none
number_all (e ∷ es) sum = let rest = number_all es (sum_after e sum) in omega (arith, rest)

number_from : (log : Log) (sum : Sum) → (sum_from sum log).number ≡ sum.number + length (entries log)
number_from [] sum = let none : sum.number ≡ sum.number + 0 = omega arith in none
number_from (b ∷ log) sum =
    let first : (sum_with sum b).number ≡ sum.number + length b.entries = number_all b.entries sum in
    let rest = number_from log (sum_with sum b) in
    let both = length-append b.entries (entries log) in
    omega (arith, first, rest, both)

pub accepted_since_adds : (h : History) (b : Batch) → AcceptedSinceAdds h b
accepted_since_adds h b = ap accepted (entries-push h.log b) ∙ accepted_adds (entries h.log) b.entries

pub accepted_since_is_few : (h : History) (sum : Sum) → AcceptedSinceIsFew h sum
accepted_since_is_few h sum l =
    let few = accepted_is_few (entries h.log) in
    let number = number_from h.log h.base in
    let there : (sum_from h.base h.log).number ≡ sum.number = ap (λ (x : Sum). x.number) l.there in
    omega (arith, few, number, there)
