-- A state of the rules, for equations that hold in every state.
use Rattle.std.proofs.Common.{Bool, true, false, [], None}
use Rattle.markup.specs.Forest.{empty_forest}
use Rattle.markup.specs.declared.quirks.QuirksMode.TheVariants.{NoQuirks}
use Rattle.html_rules.specs.State.{State}
use Rattle.html_rules.specs.declared.insertion_mode.InsertionMode.TheVariants.{Initial}
use Rattle.html_rules.specs.declared.rules.Rules.{Rules}
use Rattle.html_rules.specs.declared.rules.Rules.TheVariants.{Html5ever}

abbrev pub state_by : Rules → Bool → State
state_by rules foster = record {
  forest = empty_forest;
  open_elems = [];
  active_formatting = [];
  template_modes = [];
  mode = Initial;
  orig_mode = None;
  head_elem = None;
  form_elem = None;
  frameset_ok = true;
  ignore_lf = false;
  foster_parenting = foster;
  pending_table_text = [];
  quirks_mode = NoQuirks;
  context_elem = None;
  has_ended = false;
  opts = record { scripting_enabled = false; iframe_srcdoc = false; drop_doctype = false; rules = rules };
  answers = record {
    integration_point = λ f n. false;
    allows_shadow_roots = λ f n. true;
    attaches_shadow = λ f host template attributes. false;
  };
}

abbrev pub some_state : Bool → State
some_state foster = state_by Html5ever foster
