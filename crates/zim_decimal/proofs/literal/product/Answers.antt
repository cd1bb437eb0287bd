-- A product is past exactly where its value is.
use Rattle.zim_decimal.proofs.LiteralLemmas.{product_value}
use Rattle.zim_decimal.proofs.literal.product.Goals as goal

pub returns : goal.returns
returns c = product_value c.args.a c.args.b c.mul.result c.mul.ensures.answer
