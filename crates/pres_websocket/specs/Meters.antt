-- A stream that counts its reads.
use Rattle.std.specs.Prelude.{ℕ, Bool, nat_le, ◌||◌, refl}
use Rattle.std.specs.Coded.{Coded, code_by, coded×, coded_ℕ}

-- what it holds
pub record Meter (S : Type 0) : Type 0 where
  pub stream : S
  -- how many reads there were
  pub reads : ℕ
  -- how many of the last ones gave nothing
  pub idle : ℕ

module _ {S : Type 0} where
  abbrev pub meter_code : Coded S → Coded (Meter S)
  meter_code stream =
      code_by (S × (ℕ × ℕ))
      (coded× stream (coded× coded_ℕ coded_ℕ))
      (λ m. (m.stream, (m.reads, m.idle)))
      (λ p. record { stream = p.0; reads = p.1.0; idle = p.1.1 })
      (λ _. refl)

  -- no read is left: 2^32 - 1 were made, or 2,000 in a row gave nothing
  abbrev pub is_spent : Meter S → Bool
  is_spent m = nat_le 4294967295 m.reads || nat_le 2000 m.idle
