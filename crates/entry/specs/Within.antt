-- A float's reading is at most 16383: a law of scalars.
use Rattle.std.specs.Prelude.{◌≡◌, ℕ, ◌*◌, ◌/◌, ◌%◌, ◌≤◌, Bool, true, false, cond, ◌&&◌, ℤ, Ok, Err, Result, ◌==◌, nat_lt, Float}
use Rattle.std.proofs.Common.{refl, mul_comm, arith, ltb-false}
use Rattle.std.proofs.Math.Nat.{div-le_of_le-mul}
use Rattle.std.specs.Float.{nan, inf, fin}
use Rattle.std.specs.Float.Ieee.{up, down}
use Rattle.entry.specs.declared.fault.Cause.{Cause}
use Rattle.entry.specs.declared.fault.Cause.TheVariants.{BelowZero, AboveMost, Fraction}
use Rattle.entry.specs.Reading.{float_reading, sized}

pub never : {A : Type 0} → false ≡ true → A
never h = cc

pub err_ok : {A : Type 0} {c : Cause} {n : ℕ} → Err c ≡ Ok n → A
err_ok h = cc

ok_ok : {m n : ℕ} → ◌≡◌ {A = Result ℕ Cause} (Ok m) (Ok n) → m ≡ n
ok_ok h = cc

-- a size that reads as n: not above the most, and its whole part
sized_ok : (a d n : ℕ) → sized a d ≡ Ok n → (a ≤ 16383 * d) × (a / d ≡ n)
sized_ok a d n h = go (nat_lt (16383 * d) a) refl (a % d == 0) h
  where
    go : (b : Bool) → nat_lt (16383 * d) a ≡ b → (z : Bool) → cond b (Err AboveMost) (cond z (Ok (a / d)) (Err Fraction)) ≡ Ok n → (a ≤ 16383 * d) × (a / d ≡ n)
    go true p z e = err_ok e
    go false p true e = (ltb-false _ _ p, ok_ok e)
    go false p false e = err_ok e

pub fin_ok : (s : Bool) (m n : ℕ) (e : ℤ) → float_reading (fin s m e) ≡ Ok n → ((s && nat_lt 0 m) ≡ false) × (m * up e ≤ 16383 * down e) × (m * up e / down e ≡ n)
fin_ok s m n e h = go (s && nat_lt 0 m) refl h
  where
    go : (b : Bool) → (s && nat_lt 0 m) ≡ b → cond b (Err BelowZero) (sized (m * up e) (down e)) ≡ Ok n → ((s && nat_lt 0 m) ≡ false) × (m * up e ≤ 16383 * down e) × (m * up e / down e ≡ n)
    go true p k = err_ok k
    go false p k = let q = sized_ok _ _ n k in (p, q.0, q.1)

-- a float's reading is at most 16383
pub float_within : (x : Float) (n : ℕ) → float_reading x ≡ Ok n → n ≤ 16383
float_within nan n h = err_ok h
float_within (inf true) n h = err_ok h
float_within (inf false) n h = err_ok h
float_within (fin s m e) n h =
    let q = fin_ok s m n e h in
    let small : m * up e / down e ≤ 16383 = div-le_of_le-mul (down e) (omega (arith, q.1, mul_comm 16383 (down e))) in
    omega (arith, q.2)
