-- The kinds of a script: which number says which loss.
use Rattle.std.specs.Prelude.{ℕ, cond, ◌==◌}
use Rattle.cut.specs.declared.Loss.{Loss}
use Rattle.cut.specs.declared.Loss.TheVariants.{Old, New, Junk}

-- 0 says the old bytes, 1 the new, and any other number 90 in every byte
abbrev pub loss_of : ℕ → Loss
loss_of kind = cond (kind == 0) Old (cond (kind == 1) New Junk)

-- the kind by which a loss is printed; `loss_of` gives the loss again
abbrev pub kind_of : Loss → ℕ
kind_of Old = 0
kind_of New = 1
kind_of Junk = 2
