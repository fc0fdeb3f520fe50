use mathlib.Core.Path.{refl}
use lib.ListN.{length}
use Rattle.laws.proofs.Stores.{sets_then}
use Rattle.value_encode.proofs.write_char.Goals as goal

pub returns : goal.returns
returns c =
    let a = c.args in
    sets_then a.out.now a.at (length a.text.now) a.text.now _ refl c.copy.ensures c.fill.ensures
