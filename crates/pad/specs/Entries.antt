-- Which words describe an entry.
use Rattle.std.specs.Prelude.{◌≡◌, ◌≢◌, ℕ, List, Some, codes}
use Rattle.std.specs.Float.Ieee.{binary64}
use Rattle.std.specs.Float.Parse.{parse_float}
use Rattle.entry.specs.Naming.{packed_name}
use Rattle.entry.specs.declared.point.Point2.{Point2}
use Rattle.entry.specs.declared.preset.Preset.{Preset}
use Rattle.pad.specs.declared.script.Words.{Words}
use Rattle.pad.specs.Reading.{Text, Takes}
use Rattle.pad.specs.Spelling.{IsSpelled, WritesNumber}

-- P holds of the next word
abbrev pub TakesWhere : (List ℕ → Type 0) → Words → Words → Type 0
TakesWhere P before after = (w : Text) × Takes before w after × P w.now

-- the word is the name: `-` is none
abbrev pub IsName : ℕ → List ℕ → Type 0
IsName name word = (word ≡ codes "-" → name ≡ 0) × (word ≢ codes "-" → packed_name word ≡ Some name)

-- two floats, x before y
abbrev pub DescribesPoint : Words → Point2 → Words → Type 0
DescribesPoint before p after = (mid : Words)
    × TakesWhere (λ word. parse_float binary64 word ≡ Some p.x) before mid
    × TakesWhere (λ word. parse_float binary64 word ≡ Some p.y) mid after

-- two numbers of 16 bits, x before y, a name and a setting
abbrev pub DescribesPreset : Words → Preset → Words → Type 0
DescribesPreset before p after = (a : Words) × (b : Words) × (c : Words)
    × TakesWhere (WritesNumber 16 p.x) before a
    × TakesWhere (WritesNumber 16 p.y) a b
    × TakesWhere (IsName p.name) b c
    × TakesWhere (λ word. IsSpelled word p.setting) c after
