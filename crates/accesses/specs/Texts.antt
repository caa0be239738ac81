-- The accesses in words.
use Rattle.std.specs.Prelude.{ℕ, List, codes}
use Rattle.accesses.specs.declared.Access.{Access}
use Rattle.accesses.specs.declared.Access.TheVariants.{LooksAtFlag, Trailer, Data, FirstSpare, SecondSpare, Slip, RaisesFlag, FirstPlace, SecondPlace, LowersFlag}

abbrev pub text : Access → List ℕ
text LooksAtFlag = codes "the read of the flag"
text Trailer = codes "the read of the trailer"
text Data = codes "the read of the data sector"
text FirstSpare = codes "the write of the first spare"
text SecondSpare = codes "the write of the second spare"
text Slip = codes "the write of the slip"
text RaisesFlag = codes "the raising of the flag"
text FirstPlace = codes "the write of the first place"
text SecondPlace = codes "the write of the second place"
text LowersFlag = codes "the lowering of the flag"
