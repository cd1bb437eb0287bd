use Rattle.zim_rows.proofs.ScaledLemmas.{row_factor_past, row_terms_stop, row_kind_past, row_made}
use Rattle.zim_rows.proofs.scaled.scaled_row.Goals as goal

pub returns-in-Err : goal.returns-in-Err
returns-in-Err c = row_factor_past c.args.row.now _ c.as_slice.ensures c.in-Err.ensures.answer

pub returns-in-Err-scaled_terms : goal.returns-in-Err-scaled_terms
returns-in-Err-scaled_terms c =
    row_terms_stop c.args.row.now _ _ _ _ c.as_slice.ensures c.as_slice-2.ensures c.in-Ok.ensures.answer c.in-Err-scaled_terms.ensures

pub returns-in-Ok-scaled_kind : goal.returns-in-Ok-scaled_kind
returns-in-Ok-scaled_kind c =
    row_made c.args.row.now _ _ _ _ _ c.as_slice.ensures c.as_slice-2.ensures c.in-Ok.ensures.answer c.in-Ok-scaled_terms.ensures c.in-Ok-scaled_kind.ensures

pub returns-in-Err-scaled_kind : goal.returns-in-Err-scaled_kind
returns-in-Err-scaled_kind c =
    row_kind_past c.args.row.now _ _ c.as_slice.ensures c.in-Ok.ensures.answer c.in-Err-scaled_kind.ensures
