use Rattle.std.proofs.Common.{refl}
use Rattle.html_tokens.specs.Reading.{reading_from}
use Rattle.html_tokens.specs.Tags.{value_from}
use Rattle.html_tokens.specs.Clean.{clean_from}
use Rattle.markup.specs.Names.{html_namespace}
use Rattle.html_rules.specs.Actions.{set_mode, save_mode, restore_mode, push_template_mode, pop_template_mode}
use Rattle.html_rules.specs.Actions.{set_template_mode, set_quirks_mode, frameset_not_ok, frameset_not_ok_unless_white}
use Rattle.html_rules.specs.Actions.{set_ignore_lf, set_foster_parenting, set_head_elem, push_head_elem, remove_head_elem}
use Rattle.html_rules.specs.Actions.{set_form_elem, forget_form_elem, remove_form_elem, keep_text, insert_pending_text}
use Rattle.html_rules.specs.Adoption.{adoption_turn, adoption_turns, adoption_agency, handle_misnested_a_tags}
use Rattle.html_rules.specs.Doctypes.{doctype_error, quirky_public_prefixes, quirks_of}
use Rattle.html_rules.specs.Encodings.{encoding_of, encoding_hint}
use Rattle.html_rules.specs.ForeignContent.{is_foreign, enter_foreign, foreign_start, pop_foreign, foreign_end, close_foreign}
use Rattle.html_rules.specs.Formatting.{create_formatting_element_for, push_marker, clear_active_formatting_to_marker}
use Rattle.html_rules.specs.Formatting.{reconstruct_active_formatting_elements}
use Rattle.html_rules.specs.Names.{mathml_namespace, svg_namespace}
use Rattle.html_rules.specs.Places.{put_element, insert_element, open_element, create_root, append_text, append_comment}
use Rattle.html_rules.specs.Places.{append_comment_to_doc, append_comment_to_html, append_doctype_to_document}
use Rattle.html_rules.specs.Renames.{svg_tag_names, svg_attribute_names, xlink_namespace, xml_namespace, xmlns_namespace}
use Rattle.html_rules.specs.Renames.{foreign_attribute_names, adjust_attributes}
use Rattle.html_rules.specs.Reset.{reset_insertion_mode}
use Rattle.html_rules.specs.Rules.{rows, using_rules_for, turn, within, four_for_each, settle}
use Rattle.html_rules.specs.Sets.{names_of, mathml_names_of, svg_names_of}
use Rattle.html_rules.specs.Shape.{is_fit}
use Rattle.html_rules.specs.Stack.{parse_error, pop, pop_but_root, pop_until, pop_until_current, expect_to_close}
use Rattle.html_rules.specs.Stack.{remove_from_stack, generate_implied_end_tags, generate_implied_end_except, close_p_element}
use Rattle.html_rules.specs.Stack.{close_p_element_in_button_scope, close_item, process_end_tag_in_body, check_body_end}
use Rattle.html_rules.specs.Stack.{add_attributes_to_root, add_attributes_to_body, remove_body}
use Rattle.html_rules.specs.Step.{taken, step, is_quiet, ended}
use Rattle.html_rules.specs.Templates.{insert_template}
use Rattle.markup.specs.Namespaces.{known_namespace, name_of}
use Rattle.markup.specs.Trees.{trees_within, written}
use Rattle.html_faithful.specs.Harmless.{by_rows, made_of}
use Rattle.html_faithful.specs.Walk.{walk, is_faithful_by}
use Rattle.html_faithful.proofs.border.bodies_are_more_outside.Goals as goal

pub returns : goal.returns
unfolding reading_from value_from clean_from html_namespace set_mode save_mode restore_mode push_template_mode
    pop_template_mode set_template_mode set_quirks_mode frameset_not_ok frameset_not_ok_unless_white set_ignore_lf
    set_foster_parenting set_head_elem push_head_elem remove_head_elem set_form_elem forget_form_elem
    remove_form_elem keep_text insert_pending_text adoption_turn adoption_turns adoption_agency
    handle_misnested_a_tags doctype_error quirky_public_prefixes quirks_of encoding_of encoding_hint is_foreign
    enter_foreign foreign_start pop_foreign foreign_end close_foreign create_formatting_element_for push_marker
    clear_active_formatting_to_marker reconstruct_active_formatting_elements mathml_namespace svg_namespace
    put_element insert_element open_element create_root append_text append_comment append_comment_to_doc
    append_comment_to_html append_doctype_to_document svg_tag_names svg_attribute_names xlink_namespace
    xml_namespace xmlns_namespace foreign_attribute_names adjust_attributes reset_insertion_mode rows
    using_rules_for turn within four_for_each settle names_of mathml_names_of svg_names_of is_fit parse_error pop
    pop_but_root pop_until pop_until_current expect_to_close remove_from_stack generate_implied_end_tags
    generate_implied_end_except close_p_element close_p_element_in_button_scope close_item process_end_tag_in_body
    check_body_end add_attributes_to_root add_attributes_to_body remove_body taken step is_quiet ended
    insert_template trees_within written known_namespace name_of by_rows made_of walk is_faithful_by
returns c = refl
