-- What a reader that doesn't fail has read on its way.
use Rattle.std.proofs.Common.{◌≡◌, Result, Ok, Err, refl}
use Rattle.rws_wire.specs.Reading.{◌>>=◌}

abbrev pub done : {A E : Type 0} → A → Result A E
done x = Ok x

pub ok_is : {A E : Type 0} (x y : A) → done {A = A} {E = E} x ≡ done y → x ≡ y
ok_is x y e = cc

-- the value of a step that did not fail
pub bind_ok : {A B E : Type 0} (r : Result A E) (f : A → Result B E) (y : B) → (r >>= f) ≡ Ok y → (x : A) × (r ≡ Ok x) × (f x ≡ Ok y)
bind_ok (Ok x) f y e = (x, refl, e)
bind_ok (Err fault) f y e = absurd cc
