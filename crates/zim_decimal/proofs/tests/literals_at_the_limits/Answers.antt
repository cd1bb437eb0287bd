use Rattle.std.proofs.Common.{refl}
use Rattle.zim_decimal.specs.Token.{is_mantissa, is_number_token}
use Rattle.zim_decimal.proofs.tests.literals_at_the_limits.Goals as goal

pub read_literal-requires : goal.read_literal-requires
unfolding is_number_token is_mantissa
read_literal-requires c = λ c'. refl
