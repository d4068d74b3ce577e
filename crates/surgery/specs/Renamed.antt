-- Records under new numbers.
use Rattle.std.specs.Prelude.{◌≡◌, ℕ, ◌/◌, ◌≢◌}
use Rattle.links.specs.Links.{Links, rev, place}

-- p takes the live records of P to those of P', and q takes them back
pub record Names (P P' : ℕ → Type 0) (p q : ℕ → ℕ) : Type 0 where
  pub there : (x : ℕ) → P x → P' (p x)
  pub back : (y : ℕ) → P' y → P (q y)
  pub back_there : (x : ℕ) → P x → q (p x) ≡ x
  pub there_back : (y : ℕ) → P' y → p (q y) ≡ y

-- L' is L under other numbers; which half of its class a root names may change
pub record Renamed (L L' : Links) (V E F V' E' F' : ℕ → Type 0) (pv qv ph qh pf qf : ℕ → ℕ) : Type 0 where
  pub entries : Names V V' pv qv
  pub halves : Names (λ h. E (h / 2)) (λ h. E' (h / 2)) ph qh
  pub faces : Names F F' pf qf
  pub inner : (g : ℕ) → F' g → g ≢ 0 → qf g ≢ 0
  pub revs : (h : ℕ) → E (h / 2) → rev (ph h) ≡ ph (rev h)
  pub nexts : (h : ℕ) → E (h / 2) → L'.next (ph h) ≡ ph (L.next h)
  pub prevs : (h : ℕ) → E (h / 2) → L'.prev (ph h) ≡ ph (L.prev h)
  pub sides : (h : ℕ) → E (h / 2) → L'.face (ph h) ≡ pf (L.face h)
  pub origins : (h : ℕ) → E (h / 2) → L'.origin (ph h) ≡ pv (L.origin h)
  pub out_live : (v : ℕ) → V' v → E' (L'.out v / 2)
  pub out_origin : (v : ℕ) → V' v → L'.origin (L'.out v) ≡ v
  pub adj_live : (g : ℕ) → F' g → E' (L'.adj g / 2)
  pub adj_face : (g : ℕ) → F' g → L'.face (L'.adj g) ≡ g

-- L' is L under other numbers, with the same places, and with the outer face as before
pub record Renumbered (L L' : Links) (V E F V' E' F' : ℕ → Type 0) : Type 0 where
  pub pv : ℕ → ℕ
  pub qv : ℕ → ℕ
  pub ph : ℕ → ℕ
  pub qh : ℕ → ℕ
  pub pf : ℕ → ℕ
  pub qf : ℕ → ℕ
  pub renamed : Renamed L L' V E F V' E' F' pv qv ph qh pf qf
  pub places : (v : ℕ) → V v → place L' (pv v) ≡ place L v
  pub outer : pf 0 ≡ 0
  pub only_outer : (g : ℕ) → F g → pf g ≡ 0 → g ≡ 0
