-- One name for all definitions that a computed case opens: docs/FORMAT.md, L4, L5. No contract cites this file.
--
--   computing   `unfolding computing` opens what a reading, a question and the claims' own definitions are made of, so that `refl` computes them on a file
use Prim.Native.Nat.{ℕ}
use mathlib.Core.List.{flat_map}
use Rattle.anomaly.specs.Note.{note_of, kind_index}
use Rattle.anomaly.specs.Kept.{kept_from}
use Rattle.errors.specs.Refusal.{refusal_number, refusal_value, first_numbers_of}
use Rattle.field.specs.Le.{u16le, u32le}
use Rattle.common.specs.Header.{header_of}
use Rattle.common.specs.ValueType.{is_reference, value_type_number, value_type_of}
use Rattle.chunk.specs.Sort.{is_xml, chunk_sort, content_size as content_len, foreign_len}
use Rattle.chunk.specs.Walk.{walk, walk_from, trace, trace_from}
use Rattle.utf.specs.Utf8.{matched, is_whole_form, longest, any_whole, spelt, encode, step8}
use Rattle.utf.specs.Text.{steps_after, bytes_of, all_sound, bad_count, text_of, damage_of, eq_bytes}
use Rattle.utf.specs.Plain.{is_ascii}
use Rattle.xml.specs.NCName.{in_ranges, is_start, is_char, char_sort as name_sort, all_char, is_nc_name as is_name_of, valid_name}
use Rattle.res_string_pool.specs.Pool.{count_of, numbered, end_of, pool_from, behind_garbage, pool_of, offset_of, outside_of}
use Rattle.res_string_pool.specs.Content.{split8, split16}
use Rattle.resource_map.specs.Map.{ids_in, ids_by, map_of, id_of}
use Rattle.system_types.specs.Names.{is_good, names_from, name_by_id}
use Rattle.text.specs.Content.{system_of, string_at, string_of, content_of}
use Rattle.head.specs.Head.{tables_of, opened_of, outside_in}
use Rattle.head.specs.Entry.{length_check}
use Rattle.head.specs.Ask.{open_of, text_answer, text_buffer, content_answer}
use Rattle.xml_elements.specs.Chunk.{start_of, attribute_at, start_turn, xml_turn, foreign_number, turn_of}
use Rattle.events.specs.Events.{attribute_event, attributes_of, start_events, events_on, body_events, file_events}
use Rattle.records.specs.Repeats.{repeats_one}
use Rattle.walk.specs.Settle.{settle}
use Rattle.walk.specs.Reading.{reading}
use Rattle.first_value.specs.Question.{runs_from, fit_of, find_node, find_value, shared_of, first_answer}
use Rattle.first_values.specs.Pairs.{pairs_from, pairs_of, answers_from, many_answer, answers_after}
use Rattle.items.specs.Items.{item_at, items_from, is_name, is_new, is_good as is_good_item, rule_from, table_of, named_in}
use Rattle.items.specs.Values.{attr_text, uncovered_of}
use Rattle.value_text.specs.Value.{plain_by, named_value, attribute_value, value_open}
use Rattle.many_texts.specs.Many.{attribute_at as attribute_words}
use Rattle.main_activities.specs.Activities.{children_from, any_of, attribute_from, says, is_main, is_launcher, is_filter, is_enabled, starts}
use Rattle.main_activities.specs.Activities.{given, in_application, main_activities, main_open, main_answer, list_after}
use Rattle.claims.specs.Insertion.{places_of, chunks_of, rest_of, inserted, inserted_file}
use Rattle.claims.specs.Lost.{comes_end, start_names, still_open, before_lost, kept_of}
use Rattle.claims.specs.Screens.{NamedActivity}

-- A definition opens with all that its own line names; the number says nothing.
unfoldable pub computing : ℕ
unfolding note_of kind_index kept_from refusal_number refusal_value first_numbers_of u16le u32le header_of is_reference value_type_number value_type_of
    is_xml chunk_sort content_len foreign_len walk walk_from trace trace_from
    matched is_whole_form longest any_whole spelt encode step8 steps_after bytes_of all_sound bad_count text_of damage_of eq_bytes is_ascii
    in_ranges is_start is_char name_sort all_char is_name_of valid_name
    count_of numbered end_of pool_from behind_garbage pool_of offset_of outside_of split8 split16 ids_in ids_by map_of id_of is_good names_from name_by_id
    system_of string_at string_of content_of tables_of opened_of outside_in length_check open_of text_answer text_buffer content_answer
    start_of attribute_at start_turn xml_turn foreign_number turn_of
    attribute_event attributes_of start_events events_on body_events file_events repeats_one settle reading
    runs_from fit_of find_node find_value shared_of first_answer pairs_from pairs_of answers_from many_answer answers_after
    item_at items_from is_name is_new is_good_item rule_from table_of named_in attr_text uncovered_of plain_by named_value attribute_value value_open attribute_words
    children_from any_of attribute_from says is_main is_launcher is_filter is_enabled starts given in_application main_activities main_open main_answer list_after flat_map
    places_of chunks_of rest_of inserted inserted_file comes_end start_names still_open before_lost kept_of NamedActivity
computing = 0
