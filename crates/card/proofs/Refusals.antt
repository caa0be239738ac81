-- What follows from each of the three refusals of a card follows of all.
use Rattle.refusal.specs.declared.Refusal.{Refusal}
use Rattle.refusal.specs.declared.Refusal.TheVariants.{WrongLength, PowerOff, OutOfRange, InvalidTrailer, UnfitKey, WrongStage, PermitOut, SectorsLeft, NothingLeft}
use Rattle.card.specs.Calls.{Refused}

pub refused_map : {P Q R P' Q' R' : Type 0} (e : Refusal) → (P → P') → (Q → Q') → (R → R') → Refused e P Q R → Refused e P' Q' R'
refused_map WrongLength f g h w = f w
refused_map PowerOff f g h w = g w
refused_map OutOfRange f g h w = h w
refused_map InvalidTrailer f g h w = w
refused_map UnfitKey f g h w = w
refused_map WrongStage f g h w = w
refused_map PermitOut f g h w = w
refused_map SectorsLeft f g h w = w
refused_map NothingLeft f g h w = w

pub refused_any : {P Q R S : Type 0} (e : Refusal) → (P → S) → (Q → S) → (R → S) → Refused e P Q R → S
refused_any WrongLength f g h w = f w
refused_any PowerOff f g h w = g w
refused_any OutOfRange f g h w = h w
refused_any InvalidTrailer f g h w = absurd w
refused_any UnfitKey f g h w = absurd w
refused_any WrongStage f g h w = absurd w
refused_any PermitOut f g h w = absurd w
refused_any SectorsLeft f g h w = absurd w
refused_any NothingLeft f g h w = absurd w
