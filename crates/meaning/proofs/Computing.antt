-- One name for all that an answer is computed by: a claim that says `unfolding computing` is computed. Assumes nothing.
use Rattle.meaning.specs.Octets.{number_of, octets_of, pack, unpack, values, text}
use Rattle.meaning.specs.Jobs.{is_kind, are_flags}
use Rattle.meaning.specs.Framing.{attribute_octets, area_of, carries, walk, walk_at, from, found, vendor_found, one_sub, attributes}
use Rattle.meaning.specs.Refusals.{fault, kind_refusal, framing_refusal, area_refusal, area_order, sheet_refusal}
use Rattle.meaning.specs.Shapes.{shape_of, plain_shape, gpp_shape, meets, allowed}
use Rattle.meaning.specs.Sheet.{form_of, stored_of, value_of, decodes, form, stored, count, item, items_of, sheet_head, sheet_with, sheet_as}
use Rattle.meaning.specs.Sheet.{judged_item, whole_item, entered, items, items_in, area_in, marked, judged}
use Rattle.meaning.specs.Presence.{not_permitted, mandatory, conditional}
use Rattle.meaning.specs.Breaches.{entry, misses, offends, once_only, barred}
use Rattle.meaning.specs.Listing.{chosen, view, broken_by, at_attribute, along, wants, at_end, breaches, list_of}
use Rattle.meaning.specs.Answers.{read_answer, check_answer, write_answer}

unfoldable pub computing : Unit {0}
unfolding number_of octets_of pack unpack values text is_kind are_flags walk walk_at from found vendor_found one_sub attributes fault
    kind_refusal framing_refusal area_refusal area_order sheet_refusal shape_of plain_shape gpp_shape meets allowed form_of stored_of value_of
    decodes form stored count item items_of sheet_head sheet_with sheet_as attribute_octets area_of carries judged_item whole_item entered items
    items_in area_in marked judged not_permitted mandatory conditional entry misses offends once_only barred chosen view broken_by
    at_attribute along wants at_end breaches read_answer check_answer list_of write_answer
computing = tt
