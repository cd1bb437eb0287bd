-- Short numbers: those with at most fifteen decimals, what is left of a denominator without them, and their text.
use Rattle.std.specs.Prelude.{ℕ, zero, suc, pos, ◌+◌, ◌*◌, ◌/◌, ◌%◌, ◌++◌, ◌==◌, Bool, int_lt, if◌then◌else◌, List, [], ◌∷◌, decimal, unsigned_abs}
use Rattle.zim_rational.specs.Gcd.{gcd}
use Rattle.zim_rational.specs.Rational.{Rational}

-- 10^15, which the denominator of a number with fifteen decimals divides
abbrev pub scale : ℕ
scale = 1000000000000000

-- q is short: its denominator divides 10^15
unfoldable pub is_short : Rational → Bool
is_short q = scale % q.denom == 0

-- what is left of a denominator when all that it has in common with 10^15 is taken out
unfoldable pub part : ℕ → ℕ
part d = d / gcd d scale

-- the first decimals of r/d, which is below 1: as many as are needed to write it whole, and at most k
unfoldable pub decimals : ℕ → ℕ → ℕ → List ℕ
decimals zero d r = []
decimals (suc k) d r = if r == 0 then [] else ((48 + r * 10 / d) ∷ decimals k d (r * 10 % d))

-- a point and the decimals, or nothing where there are none
unfoldable pub point_and : List ℕ → List ℕ
point_and [] = []
point_and (digit ∷ digits) = 46 ∷ (digit ∷ digits)

-- a minus where the flag is set
abbrev pub minus_text : Bool → List ℕ
minus_text negative = if negative then (45 ∷ []) else []

-- the digits of a whole number, at least one
abbrev pub whole_text : ℕ → List ℕ
whole_text n = decimal n

-- the decimal text of n/d, where d divides 10^15: a minus where the flag is set, the whole part, and a point and the
-- decimals where there are some
unfoldable pub decimal_text : Bool → ℕ → ℕ → List ℕ
decimal_text negative n d = minus_text negative ++ (whole_text (n / d) ++ point_and (decimals 15 d (n % d)))

-- the decimal text of a short number
unfoldable pub short_text : Rational → List ℕ
short_text q = decimal_text (int_lt q.numer (pos 0)) (unsigned_abs q.numer) q.denom
