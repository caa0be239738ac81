-- What is said of a line that cannot be read.
use Rattle.std.specs.Prelude.{ℕ, List, codes}
use Rattle.units.specs.declared.fault.Expected.{Expected}
use Rattle.units.specs.declared.fault.Expected.TheVariants.{Command, Cipher, Key, Number, Input, Result, End, Memory}

abbrev pub wanted : Expected → List ℕ
wanted Command = codes "block, block-back, unit or unit-back"
wanted Cipher = codes "aes256 or speck"
wanted Key = codes "KEY in hex"
wanted Number = codes "NUMBER, a decimal number below 2^64"
wanted Input = codes "IN in hex"
wanted Result = codes "EXPECTED in hex"
wanted End = codes "nothing after EXPECTED"
wanted Memory = codes "more memory"
