-- The slice at hand.
use Rattle.history_model.specs.Broken.{Behind, Nowhere, ASlice, ADelivery}
use Rattle.history_index.specs.declared.at_hand.AtHand.{AtHand}
use Rattle.history_index.specs.declared.at_hand.AtHand.TheVariants as hand

abbrev pub behind_of : AtHand → Behind
behind_of hand.Nothing = Nowhere
behind_of (hand.Slice pid) = ASlice pid
behind_of (hand.Delivery pid) = ADelivery pid
