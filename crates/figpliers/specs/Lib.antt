-- What the public clauses cite: devices and texts
pub use Rattle.devices.specs.Devices
pub use Rattle.devices.specs.VecWriter
pub use Rattle.devices.specs.declared.traits.DeviceFault
pub use Rattle.html_input.specs.Reading
pub use Rattle.html_input.specs.TableFile
pub use Rattle.html_input.specs.declared.fault.TextFault
pub use Rattle.html_input.specs.declared.table.TableFileFault
pub use Rattle.html_queue.specs.Queue
pub use Rattle.html_references.specs.References
-- trees, and what they are written as
pub use Rattle.markup.specs.Calls as SerializerCalls
pub use Rattle.markup.specs.Escape
pub use Rattle.markup.specs.Forest
pub use Rattle.markup.specs.Names
pub use Rattle.markup.specs.Namespaces
pub use Rattle.markup.specs.TreeLaws
pub use Rattle.markup.specs.Trees
pub use Rattle.markup.specs.declared.attributes.Attribute
pub use Rattle.markup.specs.declared.fault.ParseFault
pub use Rattle.markup.specs.declared.names.QualName
pub use Rattle.markup.specs.declared.namespaces.KnownNamespace
pub use Rattle.markup.specs.declared.quirks.QuirksMode
pub use Rattle.markup.specs.declared.serializer.SerializeFault
pub use Rattle.markup.specs.declared.serializer.TraversalScope
pub use Rattle.markup.specs.declared.tokenizer_result.TokenizerResult
pub use Rattle.markup.specs.declared.tree_sink.TreeSink
pub use Rattle.html_forest.specs.Links
pub use Rattle.html_forest.specs.Views
pub use Rattle.html_forest.specs.Walk
pub use Rattle.html_forest.specs.declared.node.NodeId
pub use Rattle.html_plain.specs.Grammar
pub use Rattle.html_serialize.specs.Puts
pub use Rattle.html_serialize.specs.Serializing
-- tokens, and those who take them
pub use Rattle.html_tokens.specs.Counting
pub use Rattle.html_tokens.specs.Listed
pub use Rattle.html_tokens.specs.Sink
pub use Rattle.html_tokens.specs.Table
pub use Rattle.html_tokens.specs.declared.listed.Listed as ListedTokens
pub use Rattle.html_tokens.specs.declared.replies.TokenSinkResult
pub use Rattle.html_tokens.specs.declared.sink.TokenSink
pub use Rattle.html_tokens.specs.declared.table.TableFault
pub use Rattle.html_tokens.specs.declared.token.Token
pub use Rattle.html_tokenizer.specs.Calls as TokenizerCalls
pub use Rattle.html_tokenizer.specs.declared.tokenizer.Tokenizer
-- documents, and what is asked of their nodes
pub use Rattle.html_parser.specs.Cuts
pub use Rattle.html_parser.specs.Documents
pub use Rattle.html_parser.specs.Read
pub use Rattle.html_normal.specs.Again
pub use Rattle.html_normal.specs.Document
pub use Rattle.html_normal.specs.Fragment
pub use Rattle.html_normal.specs.Normal
pub use Rattle.html_normal.specs.declared.fault.NormalFault
pub use Rattle.html_normal.specs.declared.report.Report
pub use Rattle.html_nodes.specs.Below
pub use Rattle.html_nodes.specs.Laws as NodeLaws
pub use Rattle.html_nodes.specs.Looks
pub use Rattle.html_walks.specs.Height
pub use Rattle.html_walks.specs.Walk as StepWalk
pub use Rattle.html_walks.specs.declared.steps.Step
pub use Rattle.html_extracts.specs.Lines
pub use Rattle.html_extracts.specs.Links as PageLinks
pub use Rattle.html_extracts.specs.Shown
pub use Rattle.html_inner_text.specs.InnerText
pub use Rattle.html_inner_text.specs.Styles as RenderedStyles
pub use Rattle.html_pages.specs.Pages
pub use Rattle.html_pages.specs.ReadBack
-- pages in other encodings
pub use Rattle.html_encodings.specs.Labels as EncodingLabels
pub use Rattle.html_encodings.specs.Sniffing
pub use Rattle.html_encodings.specs.declared.names.Encoding
pub use Rattle.html_encodings.specs.declared.sniffing.Sniffed
pub use Rattle.html_encodings.specs.declared.sniffing.Why
pub use Rattle.html_encodings_multibyte.specs.Every as Decoding
pub use Rattle.html_encodings_multibyte.specs.Texts as DecodedTexts
pub use Rattle.html_decoded_source.specs.Sources
