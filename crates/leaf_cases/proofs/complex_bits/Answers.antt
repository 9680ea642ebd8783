-- `leaf_cases::complex_bits` is safe: the complex value is never a NaN.
use Rattle.common.proofs.Product.{Complex-number}
use Rattle.leaf_cases.proofs.complex_bits.Goals as goal

pub float_to_bits-result : goal.float_to_bits-result
float_to_bits-result c = Complex-number c.args.«data» c.complex_to_float.result c.complex_to_float.ensures
