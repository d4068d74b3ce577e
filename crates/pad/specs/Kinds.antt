-- Which word names which kind of entry.
use Rattle.std.specs.Prelude.{◌≡◌, ◌≢◌, ℕ, List, Result, codes, MatchResult}
use Rattle.pad.specs.declared.kind.Kind.{Kind}
use Rattle.pad.specs.declared.kind.Kind.TheVariants.{Point, Preset}
use Rattle.pad.specs.declared.complaint.Misspelled.{Misspelled}

abbrev pub kind_word : Kind → List ℕ
kind_word Point = codes "point"
kind_word Preset = codes "preset"

-- a kind is read exactly from its word
abbrev pub ReadsKind : List ℕ → Result Kind Misspelled → Type 0
ReadsKind word r = MatchResult r (λ k. word ≡ kind_word k) (λ _. (k : Kind) → word ≢ kind_word k)
