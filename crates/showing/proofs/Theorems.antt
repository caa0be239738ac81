-- What holds of every volume, each theorem from what is proved of each call.
use Rattle.showing.specs.Showing.{OfEveryVolume, CallsKeepWhatIsShown, CallsShowWhatIsPut, IsACard}
use Rattle.showing.proofs.Quiet.{power_up_kept, count_kept, load_kept, read_kept, claim_kept, hand_in_kept}
use Rattle.showing.proofs.Trailers.{begin_kept, finish_kept, format_shows}
use Rattle.showing.proofs.Stepping.{step_kept}
use Rattle.showing.proofs.Writing.{write_shows}
use Rattle.showing.proofs.Cards.{card_sound, power_up_card, count_card, read_card, write_card}

pub calls_keep : OfEveryVolume CallsKeepWhatIsShown
calls_keep c v w p s = record {
  powers_up = power_up_kept c v w;
  counts = count_kept c v w;
  loads = load_kept c v w;
  reads = read_kept c v w;
  claims = claim_kept c v w;
  begins = begin_kept c p v w s;
  steps = step_kept c p v w s;
  finishes = finish_kept c p v w s;
  hands_in = hand_in_kept c v w;
}

pub calls_show : OfEveryVolume CallsShowWhatIsPut
calls_show c v w p s = record {
  writes = λ n b took r bytes h. write_shows c p v w s n b bytes took r h;
  formats = λ reach label took r bytes h. format_shows c p v w s reach label bytes took r h;
}

pub is_a_card : OfEveryVolume IsACard
is_a_card c v w p s = record {
  sound = card_sound c p v s;
  powers_up = power_up_card c v w;
  counts = count_card c v w;
  reads = read_card c v w;
  writes = λ n b took r bytes h. write_card c p v w s n b bytes took r h;
}
