-- Tours one before another, and that moves have one tour.
use Rattle.std.specs.Prelude.{◌≡◌}
use Rattle.dr_moves.specs.Tour.{Tour, over, saw, inside, moves_of}

-- one tour before another
abbrev pub joined : Tour → Tour → Tour
joined over U = U
joined (saw i t T) U = saw i t (joined T U)
joined (inside k B T) U = inside k B (joined T U)

-- moves have at most one tour
abbrev pub OneTour : Type 0
OneTour = (T U : Tour) → moves_of T ≡ moves_of U → T ≡ U
