use Rattle.html_selector_text.proofs.scanning.+hex.Given as goal

abbrev pub decreases-hex : goal.decreases-hex
decreases-hex l = l.left
