mod Ready
mod Forms
