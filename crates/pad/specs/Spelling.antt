-- How links, settings and ways to walk are spelled.
use Rattle.std.specs.Prelude.{◌≡◌, ◌≢◌, ◌⊎◌, ℕ, ◌<◌, ◌^◌, ◌++◌, List, [], ◌∷◌, true, false, Some, Result, Ok, codes, MatchResult}
use Rattle.std.specs.Float.Parse.{parse_float}
use Rattle.std.specs.Float.Ieee.{binary32}
use Rattle.std.specs.Result.{OkIff}
use Rattle.std.specs.Str.Parse.{IsNumeral, digits_value, without_leading_plus}
use Rattle.std.specs.declared.num.ParseIntError.{ParseIntError}
use Rattle.entry.specs.declared.preset.Setting.{Setting}
use Rattle.entry.specs.declared.preset.Setting.TheVariants.{Dial, Switch, Unset}
use Rattle.links.specs.Links.{none}
use Rattle.pad.specs.declared.complaint.Misspelled.{Misspelled}
use Rattle.pad.specs.declared.kind.Spelled.{Spelled}
use Rattle.pad.specs.declared.shown.Link.{Link}
use Rattle.pad.specs.declared.walks.End.TheVariants.{Front, Back}
use Rattle.pad.specs.declared.walks.Way.{Way}

-- the number that a word writes, a leading plus aside
abbrev pub number_of : List ℕ → ℕ
number_of word = digits_value 10 (without_leading_plus word)

-- the word writes a number of 32 bits
abbrev pub IsNumber : List ℕ → Type 0
IsNumber word = IsNumeral 10 (without_leading_plus word) × (number_of word < 2 ^ 32)

-- the word writes the number n, below 2 ^ k
abbrev pub WritesNumber : ℕ → ℕ → List ℕ → Type 0
WritesNumber k n word = IsNumeral 10 (without_leading_plus word) × (number_of word < 2 ^ k) × (n ≡ number_of word)

-- `-` is no link, and any other word is read as a number
abbrev pub ReadsLink : List ℕ → Result Link ParseIntError → Type 0
ReadsLink word r = (word ≡ codes "-" → r ≡ Ok (record { 0 = none }))
    × (word ≢ codes "-" → OkIff r (IsNumber word) (record { 0 = number_of word }))

-- the word spells the setting
abbrev pub IsSpelled : List ℕ → Setting → Type 0
IsSpelled word (Dial turn) = (rest : List ℕ) × (word ≡ codes "dial:" ++ rest) × (parse_float binary32 rest ≡ Some turn)
IsSpelled word (Switch true) = word ≡ codes "switch:yes"
IsSpelled word (Switch false) = word ≡ codes "switch:no"
IsSpelled word Unset = word ≡ codes "unset"

-- a setting is read from the words that spell it
abbrev pub ReadsSetting : List ℕ → Result Spelled Misspelled → Type 0
ReadsSetting word r = MatchResult r (λ s. IsSpelled word s.0)
    (λ _. (word ≢ codes "switch:yes") × (word ≢ codes "switch:no") × (word ≢ codes "unset"))

-- `back` steps from the back, `both` from the two ends in turn
abbrev pub ReadsWay : List ℕ → Result Way Misspelled → Type 0
ReadsWay word r = MatchResult r
    (λ way. ((word ≡ codes "back") × (way.0 ≡ Back ∷ Back ∷ [])) ⊎ ((word ≡ codes "both") × (way.0 ≡ Front ∷ Back ∷ [])))
    (λ _. (word ≢ codes "back") × (word ≢ codes "both"))
