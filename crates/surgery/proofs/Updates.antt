-- Functional updates, the other half, and cases on six numbers.
use Rattle.std.proofs.Common.{◌≡◌, ℕ, ◌/◌, true, false, ◌≢◌, sym, refl, ap, ◌∙◌, subst, inl, inr, eq-eqb, ne_eqb}
use Rattle.std.proofs.lemmas.Bool.{cases_eq}
use Rattle.links.specs.Links.{rev}
use Rattle.links.proofs.Halves.{rev_half, rev_is}
use Rattle.surgery.specs.Update.{upd}

pub upd_same : (g : ℕ → ℕ) (a b : ℕ) → upd g a b a ≡ b
unfolding upd
upd_same g a b = ap {B = ℕ} (λ t. elim t [ true ↦ b | false ↦ g a ]) (eq-eqb a a refl)

pub upd_other : (g : ℕ → ℕ) (a b x : ℕ) → x ≢ a → upd g a b x ≡ g x
unfolding upd
upd_other g a b x d = ap {B = ℕ} (λ t. elim t [ true ↦ b | false ↦ g x ]) (ne_eqb x a d)

pub rev_not : (h k r : ℕ) → rev k ≡ r → h ≢ r → rev h ≢ k
rev_not h k r e d q = d (rev_is h k q ∙ e)

pub rev_live : (E : ℕ → Type 0) (h : ℕ) → E (h / 2) → E (rev h / 2)
rev_live E h l = subst E (sym (rev_half h)) l

-- past an update
pub skip : (g : ℕ → ℕ) (k v x y : ℕ) → x ≢ k → g x ≡ y → upd g k v x ≡ y
skip g k v x y d e = upd_other g k v x d ∙ e

-- equal, or not
pub cases_to : (P : ℕ → Type 0) (a x : ℕ) → P a → (x ≢ a → P x) → P x
cases_to P a x pa no' = elim (cases_eq x a) [ inl q ↦ subst P (sym q) pa | inr d ↦ no' d ]

-- x is none of the six
pub record Out (a b c d e f x : ℕ) : Type 0 where
  pub na : x ≢ a
  pub nb : x ≢ b
  pub nc : x ≢ c
  pub nd : x ≢ d
  pub ne : x ≢ e
  pub nf : x ≢ f

pub by_six : (P : ℕ → Type 0) (a b c d e f : ℕ) → P a → P b → P c → P d → P e → P f → ((x : ℕ) → Out a b c d e f x → P x) → (x : ℕ) → P x
by_six P a b c d e f pa pb pc pd pe pf else x =
    or a pa (λ na. or b pb (λ nb. or c pc (λ nc. or d pd (λ nd. or e pe (λ ne. or f pf (λ nf.
    else x (record { na = na; nb = nb; nc = nc; nd = nd; ne = ne; nf = nf })))))))
  where
    or : (y : ℕ) → P y → (x ≢ y → P x) → P x
    or y py no' = elim (cases_eq x y) [ inl q ↦ subst P (sym q) py | inr d' ↦ no' d' ]
