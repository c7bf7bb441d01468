-- How the rules of the insertion modes are written down: a mode is a list of rows, of which the first that fits a token holds.
use Rattle.std.specs.Prelude.{ℕ, List}
use Rattle.html_tokens.specs.declared.states.RawKind.{RawKind}
use Rattle.html_rules.specs.Names.{Namespace}
use Rattle.html_rules.specs.declared.insertion_mode.InsertionMode.{InsertionMode}
use Rattle.html_rules.specs.declared.insertion_mode.InsertionMode.TheVariants.{InBody, Text}
use Rattle.html_rules.specs.declared.tag_set.TagSet.{TagSet}

-- which tokens a row is for
pub data Class : Type 0 where
  StartTags : (names : TagSet) → Class
  EndTags : (names : TagSet) → Class
  AnyStartTag : Class
  AnyEndTag : Class
  -- a character of white space
  WhiteSpace : Class
  -- any character but U+0000
  Character : Class
  Null : Class
  Comment : Class
  EndOfFile : Class
  AnythingElse : Class

-- what a row, or a part of it, asks for
pub data Condition : Type 0 where
  Always : Condition
  Not : Condition → Condition
  Both : Condition → Condition → Condition
  ScriptingEnabled : Condition
  IframeSrcdoc : Condition
  -- the Standard's rules hold, not html5ever's
  ByStandard : Condition
  -- a fragment is parsed
  InFragment : Condition
  -- a fragment is parsed whose context is such an element
  ContextIs : (names : TagSet) → Condition
  -- the document is in quirks mode
  InQuirksMode : Condition
  FramesetOk : Condition
  CurrentIs : (names : TagSet) → Condition
  -- the current node is an HTML element with the token's name
  CurrentIsToken : Condition
  -- the root is the only open element
  RootAlone : Condition
  -- the second element that was opened is a body element
  SecondIsBody : Condition
  TemplateOpen : Condition
  HasTemplateModes : Condition
  -- one of these elements is in that scope
  InScope : (scope names : TagSet) → Condition
  -- an HTML element with the token's name is in that scope
  TokenInScope : (scope : TagSet) → Condition
  -- the form element pointer is set; its element is in scope; its element is the current node
  HasFormElem : Condition
  FormElemInScope : Condition
  FormElemIsCurrent : Condition
  -- the list of active formatting elements has an `a` since the last marker
  AListed : Condition
  -- the token's attribute `type` is `hidden`
  TypeHidden : Condition
  -- the token has an attribute `color`, `face` or `size`
  FontAttributes : Condition
  -- an end tag in foreign content is one for the rules of the mode
  EndsInHtml : Condition
  -- an end tag in foreign content is an error
  ForeignEndError : Condition

-- what is done
pub data Action : Type 0 where
  Nothing : Action
  Then : Action → Action → Action
  When : Condition → Action → Action
  ParseError : Action
  -- elements: for the token; for it but popped at once; with another name; without a tag of its own
  InsertElement : Action
  InsertVoid : Action
  InsertVoidAs : (name : List ℕ) → Action
  -- the same, where the form element pointer then names the element
  InsertFormVoid : Action
  InsertNew : (name : List ℕ) → Action
  InsertNewVoid : (name : List ℕ) → Action
  -- the root: for the token, or without attributes
  CreateRoot : Action
  CreateNewRoot : Action
  -- the token's text at the appropriate place; U+FFFD there
  AppendText : Action
  AppendReplacement : Action
  -- the token's comment: at the appropriate place, last in the document, last in the root
  AppendComment : Action
  AppendCommentToDocument : Action
  AppendCommentToRoot : Action
  -- a template, which may become a shadow root
  InsertTemplate : Action
  -- attributes that are missing
  AddAttributesToRoot : Action
  AddAttributesToBody : Action
  -- the body leaves its parent, and all but the root leave the stack
  RemoveBody : Action
  -- the stack of open elements
  Pop : Action
  PopUntil : (names : TagSet) → Action
  -- "clear the stack back to" such elements
  ClearBackTo : (names : TagSet) → Action
  -- elements are popped until such a one was popped, which should be the current node
  Close : (names : TagSet) → Action
  CloseToken : Action
  -- "close a p element", if one is in button scope
  CloseP : Action
  -- the nearest such item is closed
  CloseItem : (names : TagSet) → Action
  ImpliedEndTags : Action
  ImpliedEndTagsExcept : (names : TagSet) → Action
  ImpliedEndTagsExceptToken : Action
  ImpliedEndTagsThoroughly : Action
  -- "any other end tag" of the rules for a body
  AnyOtherEndTag : Action
  -- an error if something is open that may not be where the body ends
  CheckBodyEnd : Action
  -- the head element pointer: it names the current node; its element is opened, and leaves the stack
  SetHeadElem : Action
  PushHeadElem : Action
  RemoveHeadElem : Action
  -- the form element pointer: it names the current node; its element leaves the stack; it names nothing
  SetFormElem : Action
  RemoveFormElem : Action
  ForgetFormElem : Action
  -- the list of active formatting elements
  Reconstruct : Action
  InsertFormatting : Action
  InsertMarker : Action
  ClearToMarker : Action
  -- the adoption agency, for the token's name; for `nobr`; for an `a` that is listed
  AdoptionAgency : Action
  AdoptNobr : Action
  CloseMisnestedA : Action
  -- modes and flags
  SwitchTo : (mode : InsertionMode) → Action
  SaveMode : Action
  RestoreMode : Action
  ResetMode : Action
  PushTemplateMode : (mode : InsertionMode) → Action
  SetTemplateMode : (mode : InsertionMode) → Action
  PopTemplateMode : Action
  SetQuirks : Action
  FramesetNotOk : Action
  FramesetNotOkUnlessWhite : Action
  IgnoreLineFeed : Action
  EnableFosterParenting : Action
  DisableFosterParenting : Action
  -- the pending table character tokens
  KeepText : Action
  InsertPendingText : Action
  -- foreign content: `math` or `svg`; any start tag; back to HTML; the end tag's elements leave
  EnterForeign : Namespace → Action
  InsertForeign : Action
  PopForeign : Action
  CloseForeign : Action

-- how a row ends
pub data Conclusion : Type 0 where
  Done : Conclusion
  -- done, and a self-closing flag is acknowledged
  Acknowledged : Conclusion
  -- "switch the insertion mode" and "reprocess the token"
  Reprocess : (mode : InsertionMode) → Conclusion
  -- the same, with the original insertion mode
  ReprocessInOriginal : Conclusion
  -- the same, in the mode that the actions set
  ReprocessInMode : Conclusion
  -- "process the token using the rules for" a mode, and then do something more
  Using : (mode : InsertionMode) → Conclusion
  UsingThen : (mode : InsertionMode) (after : Action) → Conclusion
  UsingCurrentMode : Conclusion
  -- raw text of this kind follows, or plain text
  RawText : (kind : RawKind) → Conclusion
  PlainText : Conclusion
  -- the script that was the current node is to run
  RunScript : Conclusion
  -- done, and the encoding is told that the tag names, if it names one
  ReportEncoding : Conclusion

pub record Row : Type 0 where
  pub on : Class
  pub when : Condition
  pub does : Action
  pub ends : Conclusion

abbrev pub row : Class → Action → Conclusion → Row
row on does ends = record { on = on; when = Always; does = does; ends = ends }

abbrev pub row_if : Class → Condition → Action → Conclusion → Row
row_if on when does ends = record { on = on; when = when; does = does; ends = ends }

-- one action, and then another
infixr 6 ◌▸◌
abbrev pub ◌▸◌ : Action → Action → Action
a ▸ b = Then a b

-- "generic raw text element parsing algorithm" (section 13.2.6.2), but for the tokenizer's state
abbrev pub insert_raw_text : Action
insert_raw_text = InsertElement ▸ SaveMode ▸ SwitchTo Text

-- as in a body, with foster parenting enabled
abbrev pub fostered : Conclusion
fostered = UsingThen InBody DisableFosterParenting
