-- The form of the C interface as a number: include/axml.h, AXML_ABI. It is raised whenever a record, a signature or a number of that header
-- changes or is added. bindings/c/test.c holds the header's number to what the library answers.
--
--   abi   1: nodes and attributes of five words, notes and names of three; axml_read, axml_text, axml_content, axml_first_value
--         2: refusals 41 to 45, 51, 52 in place of 4 and 5
--         3: axml_round_up_add
--         4: nodes of six words, the line behind the others
--         5: refusal 27, a cap of 0
--         6: axml_value_text, axml_value_texts, axml_texts; refusals 14, 15, 21
--         7: attributes of six words, the namespace index behind the others; axml_read takes a mode, and refusal 16
--         8: axml_first_values; refusal 20
--         9: axml_read_listing; refusals 24, 25, 26
--        10: state and replaced in the answer of a text and of a value text, and in a part of many texts; notes of kind 32
--        11: axml_main_activities; refusal 28
use Rattle.std.specs.Prelude.{ℕ}

abbrev pub abi : ℕ
abi = 11
