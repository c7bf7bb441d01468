use Rattle.html_selector_text.proofs.writing.+push_decimal_in.Given as goal

abbrev pub decreases-push_decimal_in : goal.decreases-push_decimal_in
decreases-push_decimal_in l = l.count
