-- The lemmas that the functions' checks take.
use Rattle.std.proofs.lemmas.Int.{to_z-of_z, of_z-to_z}
use Rattle.bpf_alu.proofs.Bytes.{low_bytes}
use Rattle.bpf_alu.proofs.Digits.{bitwise_and, bitwise_or, bitwise_xor}
use Rattle.bpf_alu.proofs.SignExtension.{extend_is, low_bits_64}
use Rattle.bpf_alu.proofs.TwosComplement.{signed_32, signed_64, div_is, rem_is, shr_is, residue_minus, residue_neg}

-- what the arms of an operation give
pub ruleset operations = (bitwise_and, bitwise_or, bitwise_xor, residue_minus, residue_neg, div_is, rem_is, shr_is, to_z-of_z, of_z-to_z)

-- what the arms of a test give
pub ruleset comparisons = (bitwise_and, signed_32, signed_64, to_z-of_z)

-- what the shifts of an extension give
pub ruleset extensions = (extend_is, to_z-of_z, of_z-to_z)

-- what the shifts of a swap give
pub ruleset orders = (low_bits_64, low_bytes)
