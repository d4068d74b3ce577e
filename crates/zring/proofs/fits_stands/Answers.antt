use Rattle.zring.proofs.Machine.{cast_fits, cast_is, held_fits, held_is, cast_below}
use Rattle.zring.proofs.fits_stands.Goals as goal

pub returns : goal.returns
returns c = record {
  casts = λ w top ns e a h t. (cast_fits w top ns e a h t, cast_is w top ns e a h t);
  held = λ w top zs e a h t. (held_fits w top zs e a h t, held_is w top zs e a h t);
  range = cast_below;
}
