-- All rules at once: a proof that says `unfolding run` computes with them. Assumes nothing.
use Rattle.rules.specs.Tables.{kind_coordinates, within, coordinate_fits, fits_at, shade_fits, in_range, row_in_range}
use Rattle.rules.specs.Tables.{row_in_order, size_fits, legal, row, gap}
use Rattle.rules.specs.Tables.{squares, qualifies, unsatisfiable, side, rectangle, side_gap, far_apart, withdrawn}
use Rattle.rules.specs.Tables.{rows_qualify, weighted, pair_sum, ahead, pair_at, qualifying}
use Rattle.rules.specs.Session.{places, opened, zeros, withdrawn_within, read_out, is_empty, ceiling_by, secured_by}
use Rattle.rules.specs.Session.{settled_by}
use Rattle.rules.specs.Read.{field_next_by, lowest, skipped_by, best_held, holding, meet_by, meet_blocks_by, read_to}
use Rattle.rules.specs.Read.{read_table_by}
use Rattle.rules.specs.Take.{gives_pair_by, moved_out, finished, shown_rows}
use Rattle.rules.specs.Calls.{query_code, size_code, same_size_code, row_code, rows_code, counts_fit, pair_fits}
use Rattle.rules.specs.Calls.{mark_fits}
use Rattle.rules.specs.Calls.{depths_fit, record_fits, record_code, lent_code, call_code, new_block_code_by, kind_code}
use Rattle.rules.specs.Calls.{cards_code, open_code, open_call}
use Rattle.rules.specs.Calls.{read_call_by, take_call_by, show_call, show_place}
use Rattle.rules.specs.File.{after_blanks, digits_fit, digits_from, has_minus, after_minus, column_fits, column_number}
use Rattle.rules.specs.File.{header_fits, file_count, file_kind, column_start, row_bytes, column_fits_at, number_at}
use Rattle.rules.specs.File.{row_columns_fit}
use Rattle.rules.specs.File.{row_numbers, file_table, file_row_code}
use Rattle.rules.specs.File.{and_row, rows_loaded, kind_fits, head_code, check_file, and_slice, loaded_into}
use Rattle.rules.specs.File.{load_answer}
use Rattle.rules.specs.File.{load_numbers, check_alone}
use Rattle.rules.specs.Root.{root_up_to, root, remainder}
use Rattle.rules.specs.Query.{read_until_settled_by, take_until_finished_by, settled_session, list, decimal, pair_line}
use Rattle.rules.specs.Query.{pair_lines, query_line, last_line, listing, program_kind, program_file_code, input_code}
use Rattle.rules.specs.Query.{input_query}
use Rattle.rules.specs.Query.{refusal_line, whole_query_code, whole_query}
use Rattle.lists.specs.Lists.{cons_if, keep, every, range, each, ins, sort, ranked}

unfoldable pub run : Unit {0}
unfolding kind_coordinates within coordinate_fits fits_at shade_fits in_range row_in_range row_in_order size_fits legal
    row gap
    squares qualifies unsatisfiable side rectangle side_gap far_apart withdrawn rows_qualify
    weighted pair_sum ahead pair_at qualifying places opened zeros withdrawn_within read_out is_empty ceiling_by
    secured_by
    settled_by field_next_by lowest skipped_by best_held holding meet_by meet_blocks_by read_to read_table_by
    gives_pair_by
    moved_out finished shown_rows query_code size_code same_size_code row_code rows_code counts_fit pair_fits mark_fits
    depths_fit record_fits record_code lent_code call_code new_block_code_by kind_code cards_code open_code open_call
    read_call_by
    take_call_by show_call show_place
    after_blanks digits_fit digits_from has_minus after_minus column_fits column_number header_fits file_count file_kind
    column_start row_bytes column_fits_at number_at row_columns_fit row_numbers file_table file_row_code and_row
    rows_loaded
    kind_fits head_code check_file and_slice loaded_into
    load_answer load_numbers check_alone read_until_settled_by take_until_finished_by settled_session list decimal
    pair_line
    pair_lines query_line last_line listing program_kind program_file_code input_code input_query refusal_line
    whole_query_code
    whole_query
    root_up_to root remainder cons_if keep every range each ins sort ranked
run = tt
