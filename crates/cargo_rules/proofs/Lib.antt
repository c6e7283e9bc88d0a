mod Asking
mod Loading
mod Undering
